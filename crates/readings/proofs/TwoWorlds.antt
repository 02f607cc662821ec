-- Two worlds of one content and one session, the second with no less room: each call answers the same and leaves such a pair, unless the first lacks room.
use mathlib.Core.Path.{◌≡◌, refl, sym, ◌∙◌, ap, ap₂, subst}
use mathlib.Core.Bool.{cond}
use mathlib.Core.List.{List, []}
use mathlib.Core.Logic.{◌⊎◌, inl, inr, ⊎_elim, ◌≢◌}
use Rattle.std.specs.Prelude.{Option}
use Prim.Native.Nat.{ℕ, ◌+◌, ◌<◌}
use native.Mathlib.Omega.{arith}
use native.Mathlib.Decide.{ℕ_discrete, dec_lt}
use lib.Dec.{eqb}
use lib.ListN.{length}
use borrow.Author.Tests.{le-leb}
use Rattle.words.specs.Labels.{Checked, good, refused, and_then}
use Rattle.words.specs.Machines.{state_count}
use Rattle.words.specs.Steps.{Composition, steps_at, final_at}
use Rattle.words.specs.Settings.{Settings, Lent}
use Rattle.calls.specs.Store.{Store, expanded_place, expanded_at, mark, Part, expanded_with, first_with, mark_with}
use Rattle.calls.specs.Checks.{Session, store_of, entered_at_with}
use Rattle.calls.specs.Calls.{Outcome, store_steps, new_part, settle, unchanged, words_of_part, open_of, expand_of, final_weight_of, records_of, final_weight_with, open_with, records_with}
use Rattle.calls.specs.Sequences.{World}
use Rattle.calls.proofs.StepsKept.{longer}
use Rattle.calls.proofs.StepsStay.{Stays, steps_stay}
use Rattle.calls.proofs.ExpandKept.{Entered, entered_is, steps_range}
use Rattle.calls.proofs.Parts.{part_alike, words_alike, new_low}
use Rattle.calls.proofs.ExpandCases.{stayed, stored, expand_late, expand_stopped, expand_stored}
use Rattle.calls.proofs.OpenCases.{by_open}
use Rattle.calls.proofs.TwoStores.{Alike, Roomier, Twin, alike_triple, Steps2, steps_alike, mark_alike}
use Rattle.calls.proofs.RecordLaws.{first_place}
use Rattle.readings.specs.Worlds.{world_of, Refused, Expanded, part_in, state_at, words_in}
use Rattle.readings.specs.Again.{Again}
use Rattle.readings.proofs.Grows.{KeptWorld, Grows, room_grows, tr_room_grows}
use Rattle.readings.proofs.CallsKept.{expand_onto, expand_again, final_under, final_stays, records_under}

pub record Same (l : Lent) (c : Composition) (w v : World) : Type 0 where
  pub session : v.session ≡ w.session
  pub kept1 : KeptWorld l c w
  pub kept2 : KeptWorld l c v
  pub alike : Alike (store_of w.session w.memory) (store_of v.session v.memory)
  pub room : Roomier (store_of w.session w.memory) (store_of v.session v.memory)

-- what a call leaves in both: 13 in the first, or one answer and such a pair
abbrev pub Agrees : {A : Type 0} → Lent → Composition → Outcome A → Outcome A → Type 0
Agrees l c o p = (o.answer ≡ refused 13) ⊎ ((p.answer ≡ o.answer) × Same l c (world_of o) (world_of p))

roomier_grows : (w v w' v' : World) → Grows w w' → Grows v v' → Roomier (store_of w.session w.memory) (store_of v.session v.memory)
    → Roomier (store_of w'.session w'.memory) (store_of v'.session v'.memory)
roomier_grows w v w' v' a b r = record {
  states = omega (arith, room_grows w w' a, room_grows v v' b, r.states);
  trs = omega (arith, tr_room_grows w w' a, tr_room_grows v v' b, r.trs);
}

module _ (l : Lent) (c : Composition) (w v : World) (h : Same l c w v) where
  abbrev d : Store
  d = store_of w.session w.memory

  abbrev e : Store
  e = store_of v.session v.memory

  form1 : Entered l w.session w.memory c
  form1 = entered_is l w.session w.memory c h.kept1.sound.enters

  form2 : Entered l v.session v.memory c
  form2 = entered_is l v.session v.memory c h.kept2.sound.enters

  same_part : (n : ℕ) → n < w.session.used.states → part_in v n ≡ part_in w n
  unfolding first_with
  same_part n i = part_alike d e form1.form (omega (arith, h.alike.trs)) n i h.alike.word (h.alike.state n first_place i (omega arith))

  same_expanded : (n : ℕ) → n < w.session.used.states → expanded_at v.memory.states n ≡ expanded_at w.memory.states n
  unfolding expanded_with
  same_expanded n i = h.alike.state n expanded_place i (omega arith)

  expanded_two : (n : ℕ) → Expanded w n → Expanded v n
  expanded_two n x = (omega (arith, h.alike.states, x.0), same_expanded n x.0 ∙ x.1)

  same_words : (n : ℕ) → n < w.session.used.states → words_in v n ≡ words_in w n
  same_words n i =
      ap (words_of_part v.memory.trs) (same_part n i) ∙ words_alike d e form1.form (omega (arith, h.alike.trs)) n i (omega (arith, form2.form.trs_fit, h.alike.trs)) h.alike.word

  -- the unexpanded state n
  module _ (n : ℕ) (found : n < w.session.used.states) (bare : expanded_at w.memory.states n ≢ 1) where
    found2 : n < v.session.used.states
    found2 = omega (arith, found, h.alike.states)

    bare2 : expanded_at v.memory.states n ≢ 1
    bare2 x = bare (sym (same_expanded n found) ∙ x)

    abbrev last : ℕ
    last = w.session.used.trs + length (steps_at c (state_at w n))

    both_steps : Steps2 (state_count l.m1) (state_count l.m2) last (store_steps d (steps_at c (state_at w n))) (store_steps e (steps_at c (state_at w n)))
    both_steps =
        steps_alike last (steps_at c (state_at w n)) d e
        (record {
          form1 = longer d last form1.form (omega arith);
          form2 = longer e last form2.form (omega (arith, h.alike.trs));
          whole1 = h.kept1.whole;
          whole2 = h.kept2.whole;
          alike = h.alike;
          room = h.room;
          any = omega (arith, found);
        })
        (steps_range l w.session w.memory c h.kept1.sound.enters n found) (omega arith)

    triple2 : state_at v n ≡ state_at w n
    triple2 = alike_triple d e h.alike n found

    -- both expansions stored their steps
    grown : (d' e' : Store) → Twin (state_count l.m1) (state_count l.m2) last d' e' → Stays d d' → expand_of l w.session w.memory n ≡ stored w.session n d' → expand_of l v.session v.memory n ≡ stored v.session n e'
        → (new_part v.session.used e'.used ≡ new_part w.session.used d'.used) × Same l c (world_of (stored w.session n d')) (world_of (stored v.session n e'))
    unfolding mark_with
    grown d' e' t more p q =
        let used' : e'.used ≡ d'.used = λ i. record { states = t.alike.states i; trs = t.alike.trs i } in
        let parts : new_part v.session.used e'.used ≡ new_part w.session.used d'.used = ap₂ new_part (ap (λ (s : Session). s.used) h.session) used' in
        let a = expand_onto l c w h.kept1 n in
        let b = expand_onto l c v h.kept2 n in
        let W = world_of (stored w.session n d') in
        let X = world_of (stored v.session n e') in (
          parts,
          record {
            session = λ i. record { settings = (h.session i).settings; side = (h.session i).side; used = used' i };
            kept1 = subst (λ (o : Outcome Part). KeptWorld l c (world_of o)) p a.kept;
            kept2 = subst (λ (o : Outcome Part). KeptWorld l c (world_of o)) q b.kept;
            alike = subst (λ (r : Part). Alike (mark d' n (new_part w.session.used d'.used).first) (mark e' n r.first)) (sym parts)
                (mark_alike d' e' t.form1 t.form2 n (new_part w.session.used d'.used).first (omega (arith, found, more.states)) (new_low w.session.used d'.used more.trs) t.alike);
            room = roomier_grows w v W X (subst (λ (o : Outcome Part). Grows w (world_of o)) p a.grows) (subst (λ (o : Outcome Part). Grows v (world_of o)) q b.grows) h.room;
          },
        )

    expand_new : Agrees l c (expand_of l w.session w.memory n) (expand_of l v.session v.memory n)
    expand_new = ⊎_elim (λ x. inl (lacks x)) (λ x. inr (⊎_elim stops goes x)) both_steps
      where
        o : Outcome Part
        o = expand_of l w.session w.memory n

        p : Outcome Part
        p = expand_of l v.session v.memory n

        -- the steps of the second, from its own triple
        own : (x : Checked Store) → store_steps e (steps_at c (state_at w n)) ≡ x → store_steps e (steps_at c (state_at v n)) ≡ x
        own x = subst (λ u. store_steps e (steps_at c u) ≡ x) (sym triple2)

        lacks : store_steps d (steps_at c (state_at w n)) ≡ refused 13 → o.answer ≡ refused 13
        lacks x = ap (λ (q : Outcome Part). q.answer) (expand_stopped l w.session w.memory c h.kept1.sound.enters n found bare 13 x)

        stops : (k : ℕ) × (store_steps d (steps_at c (state_at w n)) ≡ refused k) × (store_steps e (steps_at c (state_at w n)) ≡ refused k) → (p.answer ≡ o.answer) × Same l c (world_of o) (world_of p)
        stops (k, x, y) = rw (expand_stopped l w.session w.memory c h.kept1.sound.enters n found bare k x, expand_stopped l v.session v.memory c h.kept2.sound.enters n found2 bare2 k (own (refused k) y)) (refl, h)

        goes : (d' : Store) × (e' : Store) × (store_steps d (steps_at c (state_at w n)) ≡ good d') × (store_steps e (steps_at c (state_at w n)) ≡ good e') × Twin (state_count l.m1) (state_count l.m2) last d' e'
            → (p.answer ≡ o.answer) × Same l c (world_of o) (world_of p)
        goes (d', e', x, y, t) =
            let a = expand_stored l w.session w.memory c h.kept1.sound.enters n found bare d' x in
            let b = expand_stored l v.session v.memory c h.kept2.sound.enters n found2 bare2 e' (own (good e') y) in
            let r = grown d' e' t (steps_stay d (steps_at c (state_at w n)) d' x) a b in
            rw (a, b) (ap good r.0, r.1)

  -- expand
  pub expand_two : (n : ℕ) → Agrees l c (expand_of l w.session w.memory n) (expand_of l v.session v.memory n)
  expand_two n = go (dec_lt n w.session.used.states) (ℕ_discrete (expanded_at w.memory.states n) 1)
    where
      go : Dec (n < w.session.used.states) → Dec (expanded_at w.memory.states n ≡ 1) → Agrees l c (expand_of l w.session w.memory n) (expand_of l v.session v.memory n)
      go (no i) x =
          inr (rw (expand_late l w.session w.memory c h.kept1.sound.enters n (omega arith), expand_late l v.session v.memory c h.kept2.sound.enters n (omega (arith, h.alike.states, i))) (refl, h))
      go (yes i) (no x) = expand_new n i x
      go (yes i) (yes x) = inr (rw (expand_again l c w h.kept1 n (i, x), expand_again l c v h.kept2 n (expanded_two n (i, x))) (ap good (same_part n i), h))

  -- final weight
  same_final : (n : ℕ) → (final_weight_of l v.session v.memory n).answer ≡ (final_weight_of l w.session w.memory n).answer
  unfolding final_weight_with entered_at_with
  same_final n = go (dec_lt n w.session.used.states)
    where
      on : (o : Checked (Option ℕ)) → (settle v.session v.memory (and_then o (λ x. good (unchanged v.session v.memory x)))).answer ≡ (settle w.session w.memory (and_then o (λ x. good (unchanged w.session w.memory x)))).answer
      on (good x) = refl
      on (refused k) = refl

      go : Dec (n < w.session.used.states) → (final_weight_of l v.session v.memory n).answer ≡ (final_weight_of l w.session w.memory n).answer
      go (yes i) =
          let a = final_under l c w h.kept1 n i in
          let b = final_under l c v h.kept2 n (omega (arith, h.alike.states, i)) in
          rw (a, b, alike_triple d e h.alike n i) (on (final_at c (state_at w n)))
      go (no i) =
          rw (h.kept1.sound.enters, h.kept2.sound.enters, le-leb w.session.used.states n (omega arith), le-leb v.session.used.states n (omega (arith, h.alike.states, i)))

  pub final_two : (n : ℕ) → Agrees l c (final_weight_of l w.session w.memory n) (final_weight_of l v.session v.memory n)
  final_two n = inr (same_final n, subst (Same l c (world_of (final_weight_of l w.session w.memory n))) (sym (final_stays l c v n)) (subst (λ x. Same l c x v) (sym (final_stays l c w n)) h))

  -- handing back
  pub records_two : (n : ℕ) → records_of l v.session v.memory n ≡ records_of l w.session w.memory n
  unfolding records_with entered_at_with
  records_two n = go (dec_lt n w.session.used.states)
    where
      go : Dec (n < w.session.used.states) → records_of l v.session v.memory n ≡ records_of l w.session w.memory n
      go (yes i) =
          records_under l c v h.kept2 n (omega (arith, h.alike.states, i))
          ∙ (ap₂ (λ (x : ℕ) (y : List ℕ). cond (eqb x 1) y []) (same_expanded n i) (same_words n i) ∙ sym (records_under l c w h.kept1 n i))
      go (no i) =
          rw (h.kept1.sound.enters, h.kept2.sound.enters, le-leb w.session.used.states n (omega arith), le-leb v.session.used.states n (omega (arith, h.alike.states, i)))

  -- an opening that is refused in the first: by 1 to 7 or 18, which look at no memory, or by 13
  pub open_two : (s : Settings) (k : Lent) → Refused (open_of s k w.session w.memory).answer → Agrees l c (open_of s k w.session w.memory) (open_of s k v.session v.memory)
  unfolding open_with
  open_two s k =
      by_open s k w.session w.memory (λ (o : Outcome (Unit {0})). Refused o.answer → Agrees l c o (open_of s k v.session v.memory))
      (λ n x r. inr (rw x (refl, h))) (λ side x y r. absurd r) (λ side t x y r. inl refl) (λ side t x y b r. absurd r)

  -- what is given again of the second is given again of the first
  pub again_two : (u : World) → Again l v u → Again l w u
  again_two u a = record {
    list = λ n x. a.list n (expanded_two n x) ∙ ap (λ (p : Part). stayed u.session u.memory (good p)) (same_part n x.0);
    words = λ n x. a.words n (expanded_two n x) ∙ same_words n x.0;
    weight = λ n x e. a.weight n x (same_final n ∙ e);
  }
