-- An expansion keeps what every world of a list has, and the world grows: by one split of it. What a call leaves, and that it is given again; for runs see Pieces.
use mathlib.Core.Path.{◌≡◌, refl, sym, ◌∙◌, ap, subst}
use mathlib.Core.Bool.{Bool, true, false}
use mathlib.Core.Logic.{◌≢◌, ◌⊎◌, inl, inr, ⊎_elim}
use Rattle.std.specs.Prelude.{Option}
use mathlib.Core.List.{[]}
use Prim.Native.Nat.{ℕ, ◌≤◌, ◌<◌}
use native.Mathlib.Omega.{arith}
use lib.Dec.{eqb, leb}
use borrow.Author.Tests.{eqb-true, eq-eqb, leb-false, le-leb, lt-leb}
use Rattle.words.specs.Labels.{Checked, good, refused, and_then}
use Rattle.words.specs.Steps.{Composition, steps_at, final_at}
use Rattle.words.specs.Settings.{Lent}
use Rattle.words.proofs.CheckedLaws.{good≢refused, refused_is, good_is}
use Rattle.calls.specs.Store.{Store, triple_at, expanded_at, Part}
use Rattle.calls.specs.Checks.{store_of, entered, entered_at, entered_at_with}
use Rattle.calls.specs.Calls.{Outcome, store_steps, new_part, settle, unchanged, words_of_part, records_by, final_weight_with, records_with}
use Rattle.calls.specs.Sequences.{World}
use Rattle.calls.proofs.ExpandKept.{expand_kept, entered_is}
use Rattle.calls.proofs.Parts.{words_alike}
use Rattle.calls.proofs.ExpandCases.{stayed, stored, by_expand, expand_old, store_refusals, final_refusals}
use Rattle.readings.specs.Worlds.{world_of, expand_in, final_in, handed_in, UsedState, Expanded, part_in, words_in, state_at}
use Rattle.readings.specs.Again.{Again}
use Rattle.readings.proofs.Grows.{KeptWorld, Grows, grows_none, grows_on}
use Rattle.readings.proofs.Expansions.{expansion_keeps, expansion_grows, expansion_lists, expansion_only}

-- a later world
pub record Onto (l : Lent) (c : Composition) (w v : World) : Type 0 where
  pub kept : KeptWorld l c v
  pub grows : Grows w v

pub onto_none : (l : Lent) (c : Composition) (w : World) → KeptWorld l c w → Onto l c w w
onto_none l c w k = record { kept = k; grows = grows_none w }

pub onto_on : (l : Lent) (c : Composition) (w v u : World) → Onto l c w v → Onto l c v u → Onto l c w u
onto_on l c w v u p q = record { kept = q.kept; grows = grows_on w v u p.grows q.grows }

module _ (l : Lent) (c : Composition) where
  -- one expansion, accepted or not
  pub expand_onto : (w : World) → KeptWorld l c w → (n : ℕ) → Onto l c w (world_of (expand_in l w n))
  expand_onto w k n =
      by_expand l w.session w.memory c k.sound.enters n (λ o. expand_in l w n ≡ o → Onto l c w (world_of o))
      (λ h e. onto_none l c w k) (λ h x e. onto_none l c w k) (λ h x j y e. onto_none l c w k) new refl
    where
      new : n < w.session.used.states → expanded_at w.memory.states n ≢ 1 → (d : Store) → store_steps (store_of w.session w.memory) (steps_at c (triple_at w.memory.states n)) ≡ good d
          → expand_in l w n ≡ stored w.session n d → Onto l c w (world_of (stored w.session n d))
      new h b d g e =
          let a : entered l (expand_in l w n).session (expand_in l w n).memory ≡ good c
          = expand_kept l w.session w.memory n c (new_part w.session.used d.used) k.sound.enters (ap (λ (o : Outcome Part). o.answer) e) in
          record {
            kept = expansion_keeps l c w.session w.memory k n h d g b (subst (λ (o : Outcome Part). entered l o.session o.memory ≡ good c) e a);
            grows = expansion_grows l c w.session w.memory k n h d g b;
          }

  -- an accepted expansion: the state is expanded, and its list is the one that was answered
  pub expand_lists : (w : World) → KeptWorld l c w → (n : ℕ) (p : Part) → (expand_in l w n).answer ≡ good p
      → Expanded (world_of (expand_in l w n)) n × (part_in (world_of (expand_in l w n)) n ≡ p)
  expand_lists w k n p =
      by_expand l w.session w.memory c k.sound.enters n (λ o. o.answer ≡ good p → Expanded (world_of o) n × (part_in (world_of o) n ≡ p))
      (λ h e. absurd (good≢refused (sym e))) (λ h x e. ((h, x), good_is e)) (λ h x j y e. absurd (good≢refused (sym e)))
      (λ h b d g e. let r = expansion_lists l c w.session w.memory k n h d g b in (r.0, r.1 ∙ good_is e))

  -- and no other state is
  pub expand_only : (w : World) → KeptWorld l c w → (n j : ℕ) → Expanded (world_of (expand_in l w n)) j
      → Expanded w j ⊎ ((j ≡ n) × ((p : Part) × ((expand_in l w n).answer ≡ good p)))
  expand_only w k n j =
      by_expand l w.session w.memory c k.sound.enters n (λ o. Expanded (world_of o) j → Expanded w j ⊎ ((j ≡ n) × ((p : Part) × (o.answer ≡ good p))))
      (λ h x. inl x) (λ h y x. inl x) (λ h y i z x. inl x)
      (λ h b d g x. ⊎_elim (λ z. inr (z, (new_part w.session.used d.used, refl))) (λ z. inl z) (expansion_only l c w.session w.memory k n h d g b j x))

  -- a refused one changes nothing
  pub expand_stays : (w : World) → KeptWorld l c w → (n k : ℕ) → (expand_in l w n).answer ≡ refused k → world_of (expand_in l w n) ≡ w
  expand_stays w h n k =
      by_expand l w.session w.memory c h.sound.enters n (λ o. o.answer ≡ refused k → world_of o ≡ w)
      (λ a e. refl) (λ a x e. absurd (good≢refused e)) (λ a x j y e. refl) (λ a b d g e. absurd (good≢refused e))

  -- an expanded state is answered as stored
  pub expand_again : (w : World) → KeptWorld l c w → (n : ℕ) → Expanded w n → expand_in l w n ≡ stayed w.session w.memory (good (part_in w n))
  expand_again w k n x = expand_old l w.session w.memory c k.sound.enters n x.0 x.1

  -- a found state is refused by 10 to 13 alone
  pub expand_numbers : (w : World) → KeptWorld l c w → (n : ℕ) → n < w.session.used.states → (k : ℕ) → (expand_in l w n).answer ≡ refused k → (10 ≤ k) × (k ≤ 13)
  expand_numbers w h n i k =
      by_expand l w.session w.memory c h.sound.enters n (λ o. o.answer ≡ refused k → (10 ≤ k) × (k ≤ 13))
      (λ a e. absurd (omega (arith, a, i))) (λ a x e. absurd (good≢refused e))
      (λ a b j y e. store_refusals l w.session w.memory c h.sound.enters (store_of w.session w.memory) (state_at w n) k (y ∙ ap refused (refused_is e)))
      (λ a b d g e. absurd (good≢refused e))

  -- final weight and handing back of a found state, where the checks 1 to 8 pass
  pub final_under : (w : World) → KeptWorld l c w → (n : ℕ) → n < w.session.used.states
      → final_in l w n ≡ settle w.session w.memory (and_then (final_at c (state_at w n)) (λ x. good (unchanged w.session w.memory x)))
  unfolding final_weight_with entered_at_with
  final_under w k n h = rw (k.sound.enters, lt-leb _ _ h)

  pub records_under : (w : World) → KeptWorld l c w → (n : ℕ) → n < w.session.used.states → handed_in l w n ≡ records_by (good c) (store_of w.session w.memory) n
  unfolding records_with entered_at_with
  records_under w k n h = rw (k.sound.enters, lt-leb _ _ h)

  -- final weight answers for found states alone, and changes nothing
  final_found : (w : World) → KeptWorld l c w → (n : ℕ) (x : Option ℕ) → (final_in l w n).answer ≡ good x → n < w.session.used.states
  unfolding final_weight_with entered_at_with
  final_found w k n x e = go (leb w.session.used.states n) refl
    where
      go : (b : Bool) → leb w.session.used.states n ≡ b → n < w.session.used.states
      go true p = absurd (good≢refused (sym (rw (k.sound.enters, p) at e)))
      go false p = leb-false _ _ p

  pub final_stays : (w : World) (n : ℕ) → world_of (final_in l w n) ≡ w
  unfolding final_weight_with
  final_stays w n = go (entered_at l w.session w.memory n)
    where
      on : (o : Checked (Option ℕ)) → world_of (settle w.session w.memory (and_then o (λ x. good (unchanged w.session w.memory x)))) ≡ w
      on (good x) = refl
      on (refused k) = refl

      go : (o : Checked Composition) → world_of (settle w.session w.memory (and_then o (λ p. and_then (final_at p (triple_at w.memory.states n)) (λ x. good (unchanged w.session w.memory x))))) ≡ w
      go (good p) = on (final_at p (triple_at w.memory.states n))
      go (refused k) = refl

  -- and its final weight by 12
  pub final_numbers : (w : World) → KeptWorld l c w → (n : ℕ) → n < w.session.used.states → (k : ℕ) → (final_in l w n).answer ≡ refused k → k ≡ 12
  final_numbers w h n i k e = go (final_at c (state_at w n)) refl (ap (λ (o : Outcome (Option ℕ)). o.answer) (sym (final_under w h n i)) ∙ e)
    where
      go : (o : Checked (Option ℕ)) → final_at c (state_at w n) ≡ o → (settle w.session w.memory (and_then o (λ x. good (unchanged w.session w.memory x)))).answer ≡ refused k → k ≡ 12
      go (good x) p z = absurd (good≢refused z)
      go (refused j) p z = final_refusals c (state_at w n) k (p ∙ ap refused (refused_is z))

  -- what is not found is refused by 9
  pub final_late : (w : World) → KeptWorld l c w → (n : ℕ) → w.session.used.states ≤ n → (final_in l w n).answer ≡ refused 9
  unfolding final_weight_with entered_at_with
  final_late w k n h = rw (k.sound.enters, le-leb _ _ h)

  -- where it is found its final weight is answered
  pub final_is : (w : World) → KeptWorld l c w → (n : ℕ) → UsedState w n → (final_in l w n).answer ≡ final_at c (state_at w n)
  final_is w k n h = ap (λ (o : Outcome (Option ℕ)). o.answer) (final_under w k n h) ∙ go (final_at c (state_at w n))
    where
      go : (o : Checked (Option ℕ)) → (settle w.session w.memory (and_then o (λ x. good (unchanged w.session w.memory x)))).answer ≡ o
      go (good x) = refl
      go (refused j) = refl

  -- words are handed back for expanded states alone
  pub handed_or_none : (w : World) → KeptWorld l c w → (n : ℕ) → Expanded w n ⊎ (handed_in l w n ≡ [])
  unfolding records_with entered_at_with
  handed_or_none w k n = go (leb w.session.used.states n) refl (eqb (expanded_at w.memory.states n) 1) refl
    where
      go : (b : Bool) → leb w.session.used.states n ≡ b → (t : Bool) → eqb (expanded_at w.memory.states n) 1 ≡ t → Expanded w n ⊎ (handed_in l w n ≡ [])
      go true p t q = inr (rw (k.sound.enters, p))
      go false p true q = inl (leb-false _ _ p, eqb-true _ _ q)
      go false p false q = inr (rw (k.sound.enters, p, q))

-- 3a, where the later world grew from the earlier one
pub again_onto : (l : Lent) (c : Composition) (w v : World) → KeptWorld l c w → Onto l c w v → Again l w v
again_onto l c w v k o = record {
  list = λ n x. expand_again l c v o.kept n (o.grows.expanded n x) ∙ ap (λ p. stayed v.session v.memory (good p)) (o.grows.part n x);
  words = words;
  weight = λ n x e. let h = final_found l c w k n x e in weighs n x h e;
}
  where
    words : (n : ℕ) → Expanded w n → handed_in l v n ≡ words_in w n
    words n x =
        let y = o.grows.expanded n x in
        let a = entered_is l w.session w.memory c k.sound.enters in
        let b = entered_is l v.session v.memory c o.kept.sound.enters in
        let d = store_of w.session w.memory in
        let e = store_of v.session v.memory in
        records_under l c v o.kept n y.0
        ∙ (rw (eq-eqb (expanded_at v.memory.states n) 1 y.1) (ap (words_of_part v.memory.trs) (o.grows.part n x))
        ∙ words_alike d e a.form o.grows.trs n x.0 (omega (arith, o.grows.trs, b.form.trs_fit)) o.grows.word)

    weighs : (n : ℕ) (x : Option ℕ) → n < w.session.used.states → (final_in l w n).answer ≡ good x → (final_in l v n).answer ≡ good x
    weighs n x h e =
        let a = final_under l c w k n h in
        let b = final_under l c v o.kept n (omega (arith, h, o.grows.states)) in
        ap (λ (q : Outcome (Option ℕ)). q.answer) b ∙ (go (final_at c (state_at w n)) (ap (final_at c) (o.grows.state n h)) (ap (λ (q : Outcome (Option ℕ)). q.answer) (sym a) ∙ e))
      where
        go : (q : Checked (Option ℕ)) → final_at c (state_at v n) ≡ q → (settle w.session w.memory (and_then q (λ y. good (unchanged w.session w.memory y)))).answer ≡ good x
            → (settle v.session v.memory (and_then (final_at c (state_at v n)) (λ y. good (unchanged v.session v.memory y)))).answer ≡ good x
        go (good y) p z = rw p z
        go (refused j) p z = absurd (good≢refused (sym z))

-- what is given again of the later world is given again of the earlier one
pub again_through : (l : Lent) (c : Composition) (w v u : World) → KeptWorld l c w → Onto l c w v → Again l v u → Again l w u
again_through l c w v u k o a =
    let b = again_onto l c w v k o in
    let d = again_onto l c v v o.kept (onto_none l c v o.kept) in
    record {
      list = λ n x. a.list n (o.grows.expanded n x) ∙ ap (λ (p : Part). stayed u.session u.memory (good p)) (o.grows.part n x);
      words = λ n x. let y = o.grows.expanded n x in a.words n y ∙ (sym (d.words n y) ∙ b.words n x);
      weight = λ n y e. a.weight n y (b.weight n y e);
    }
