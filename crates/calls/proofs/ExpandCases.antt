-- One split of an expansion, where the checks 1 to 8 pass: not found, expanded before, refused, or stored. And the numbers by which a found state can be refused.
use mathlib.Core.Path.{◌≡◌, refl, sym, ◌∙◌, ap, subst}
use mathlib.Core.Bool.{Bool, true, false, cond, ◌&&◌}
use mathlib.Core.List.Memᴰ
use mathlib.Core.List.Memᴰ.{head as here}
use mathlib.Core.List.Memᴰ.{tail as there}
use mathlib.Core.List.{List, [], ◌∷◌, Memᴰ as In}
use mathlib.Core.Logic.{◌⊎◌, inl, inr, ⊎_elim, ◌≢◌}
use Rattle.std.specs.Prelude.{Option, None, Some}
use Prim.Native.Nat.{ℕ, ◌≤◌, ◌<◌}
use native.Mathlib.Omega.{arith}
use lib.Dec.{eqb, leb}
use borrow.Author.Tests.{eqb-true, eqb-false, leb-true, leb-false}
use Rattle.lists.proofs.Places.{in_at}
use Rattle.papers.specs.Machine.{Machine}
use Rattle.words.specs.Labels.{Checked, good, refused}
use Rattle.words.specs.Machines.{well_formed}
use Rattle.words.specs.Matches.{MatchType}
use Rattle.words.specs.Sides.{Side, non_empty, side_of}
use Rattle.words.specs.Steps.{Composition, Triple, Step, steps_at, unless_zero, final_at}
use Rattle.words.specs.Settings.{Settings, Lent, operand1, operand2, composition_of}
use Rattle.words.specs.Weights.{times}
use Rattle.words.proofs.CheckedLaws.{stop_if, stop_then, good≢refused, good_is, refused_is}
use Rattle.words.specs.AsPapers.{direction_of}
use Rattle.words.proofs.PapersOpened.{direction_refused, kept_refused}
use Rattle.words.proofs.PapersSteps.{opened_as_papers}
use Rattle.calls.specs.Store.{Memory, Store, state_room, tr_room, triple_at, expanded_at, find, mark, Part, part_at}
use Rattle.calls.specs.Checks.{Session, store_of, entered, entered_at_with}
use Rattle.calls.specs.Calls.{Outcome, reached_by, store_step, next_for, store_steps, new_part, expansion, expand_by, expand_of, settle, expand_with, expansion_with, reach_with, store_step_with, store_steps_with}
use Rattle.calls.proofs.ExpandKept.{entered_is, sided}
use Rattle.calls.proofs.RunLaws.{expand_under}

-- what an expansion leaves that changes nothing
abbrev pub stayed : {A : Type 0} → Session → Memory → Checked A → Outcome A
stayed s m a = record { answer = a; session = s; memory = m }

-- and one that stored all steps of state n, with the store e
abbrev pub stored : Session → ℕ → Store → Outcome Part
stored s n e =
    let p = new_part s.used e.used in
    let f = mark e n p.first in
    record { answer = good p; session = record { settings = s.settings; side = s.side; used = f.used }; memory = f.memory }

module _ (l : Lent) (s : Session) (m : Memory) (c : Composition) (enters : entered l s m ≡ good c) where
  -- P holds of an expansion where it holds in each case, with what is known there
  pub by_expand : (n : ℕ) (P : Outcome Part → Type 0)
      → (s.used.states ≤ n → P (stayed s m (refused 9)))
      → (n < s.used.states → expanded_at m.states n ≡ 1 → P (stayed s m (good (part_at (store_of s m) n))))
      → (n < s.used.states → expanded_at m.states n ≢ 1 → (k : ℕ) → store_steps (store_of s m) (steps_at c (triple_at m.states n)) ≡ refused k → P (stayed s m (refused k)))
      → (n < s.used.states → expanded_at m.states n ≢ 1 → (e : Store) → store_steps (store_of s m) (steps_at c (triple_at m.states n)) ≡ good e → P (stored s n e))
      → P (expand_of l s m n)
  unfolding expand_with entered_at_with expansion_with
  by_expand n P late old stop new = go (leb s.used.states n) refl
    where
      by_store : (x : Checked Store) → n < s.used.states → expanded_at m.states n ≢ 1 → store_steps (store_of s m) (steps_at c (triple_at m.states n)) ≡ x → P (settle s m (expansion c s m n))
      by_store (good e) h b x = rw x (new h b e x)
      by_store (refused k) h b x = rw x (stop h b k x)

      by_mark : (b : Bool) → n < s.used.states → eqb (expanded_at m.states n) 1 ≡ b → P (settle s m (expand_by c s m n b))
      by_mark true h e = old h (eqb-true _ _ e)
      by_mark false h e = by_store (store_steps (store_of s m) (steps_at c (triple_at m.states n))) h (eqb-false _ _ e) refl

      go : (b : Bool) → leb s.used.states n ≡ b → P (expand_of l s m n)
      go true e = rw (enters, e) (late (leb-true _ _ e))
      go false e = subst P (sym (expand_under l s m n c enters e)) (by_mark (eqb (expanded_at m.states n) 1) (leb-false _ _ e) refl)

  -- and the cases by themselves
  pub expand_late : (n : ℕ) → s.used.states ≤ n → expand_of l s m n ≡ stayed s m (refused 9)
  expand_late n h = by_expand n (λ o. o ≡ stayed s m (refused 9)) (λ a. refl) (λ a x. absurd (omega (arith, a, h))) (λ a x k e. absurd (omega (arith, a, h))) (λ a x d e. absurd (omega (arith, a, h)))

  pub expand_old : (n : ℕ) → n < s.used.states → expanded_at m.states n ≡ 1 → expand_of l s m n ≡ stayed s m (good (part_at (store_of s m) n))
  expand_old n h y =
      by_expand n (λ o. o ≡ stayed s m (good (part_at (store_of s m) n))) (λ a. absurd (omega (arith, a, h))) (λ a x. refl) (λ a x k e. absurd (x y)) (λ a x d e. absurd (x y))

  module _ (n : ℕ) (found : n < s.used.states) (bare : expanded_at m.states n ≢ 1) where
    pub expand_stopped : (k : ℕ) → store_steps (store_of s m) (steps_at c (triple_at m.states n)) ≡ refused k → expand_of l s m n ≡ stayed s m (refused k)
    expand_stopped k e =
        by_expand n (λ o. o ≡ stayed s m (refused k))
        (λ a. absurd (omega (arith, a, found))) (λ a x. absurd (bare x)) (λ a x j g. ap (λ (i : ℕ). stayed s m (refused i)) (refused_is (sym g ∙ e))) (λ a x d g. absurd (good≢refused (sym g ∙ e)))

    pub expand_stored : (d : Store) → store_steps (store_of s m) (steps_at c (triple_at m.states n)) ≡ good d → expand_of l s m n ≡ stored s n d
    expand_stored d e =
        by_expand n (λ o. o ≡ stored s n d)
        (λ a. absurd (omega (arith, a, found))) (λ a x. absurd (bare x)) (λ a x j g. absurd (good≢refused (sym e ∙ g))) (λ a x f g. ap (stored s n) (good_is (sym g ∙ e)))

reach_refused : (d : Store) (t : Triple) (o : Option ℕ) (k : ℕ) → reached_by d t o ≡ refused k → k ≡ 13
reach_refused d t (Some n) k e = absurd (good≢refused e)
reach_refused d t None k e = ⊎_elim (λ z. z) (λ z. absurd (good≢refused z)) (stop_if (leb (state_room d.memory) d.used.states) 13 _ k e)

step_refused : (d : Store) (next : ℕ) (st : Step) (k : ℕ) → store_step d next st ≡ refused k → k ≡ 13
unfolding store_step_with reach_with
step_refused d next st k e =
    ⊎_elim (λ z. z) (λ z. ⊎_elim (reach_refused d st.to (find d st.to) k) (λ x. absurd (good≢refused x.2)) (stop_then (reached_by d st.to (find d st.to)) _ k z))
    (stop_if (leb (tr_room d.memory) d.used.trs) 13 _ k e)

-- steps are refused by 13, or by a refusal among them
pub stored_refused : (d : Store) (steps : List (Checked Step)) (k : ℕ) → store_steps d steps ≡ refused k → (k ≡ 13) ⊎ In (refused k) steps
unfolding store_steps_with
stored_refused d [] k e = absurd (good≢refused e)
stored_refused d (refused n ∷ others) k e = inr (here (ap refused (refused_is (sym e))))
stored_refused d (good st ∷ others) k e =
    let next = next_for d (non_empty others) in
    ⊎_elim (λ x. inl (step_refused d next st k x)) (λ x. ⊎_elim inl (λ i. inr (there i)) (stored_refused x.0 others k x.2))
    (stop_then (store_step d next st) _ k e)

-- a refusal among the steps of a composed state is 10, 11 or 12
pub listed_refused : (s : Settings) (l : Lent) (side : Side) → well_formed l.m1 ≡ true → well_formed l.m2 ≡ true → side_of (operand1 s l) (operand2 s l) ≡ good side
    → (t : Triple) (k : ℕ) → In (refused k) (steps_at (composition_of s l side) t) → (10 ≤ k) × (k ≤ 12)
unfolding steps_at
listed_refused s l side w1 w2 e t k i = go (direction_of (composition_of s l side) t) refl
  where
    c : Composition
    c = composition_of s l side

    go : (d : Checked MatchType) → direction_of c t ≡ d → (10 ≤ k) × (k ≤ 12)
    go (refused n) p =
        ⊎_elim (λ z. let q : k ≡ n = refused_is z in let ten = ((direction_refused c t n).0 p).0 in (omega (arith, q, ten), omega (arith, q, ten))) (λ z. absurd (Memᴰ.not-nil z)) (Memᴰ.cases_cons (rw (kept_refused c t n p) at i))
    go (good d) p =
        let j = in_at i in
        ⊎_elim (λ z. (omega (arith, z.0), omega (arith, z.0))) (λ z. (omega (arith, z.0), omega (arith, z.0))) ((opened_as_papers s l side w1 w2 e t d p).refusals j.0 k j.1)

-- "then 10, then in move order 11 .. and 12, 13 for each kept move. Nothing else yields them.": and nothing else refuses the expansion of a found state
pub store_refusals : (l : Lent) (s : Session) (m : Memory) (c : Composition) → entered l s m ≡ good c → (d : Store) (t : Triple) (k : ℕ) → store_steps d (steps_at c t) ≡ refused k → (10 ≤ k) × (k ≤ 13)
store_refusals l s m c e d t k g =
    let h = entered_is l s m c e in
    let z = sided s.settings l h.side h.rule in
    ⊎_elim (λ x. (omega (arith, x), omega (arith, x)))
    (λ i. let r = listed_refused s.settings l h.side z.formed1 z.formed2 z.rule t k (subst (λ o. In (refused k) (steps_at o t)) h.composition i) in (r.0, omega (arith, r.1)))
    (stored_refused d (steps_at c t) k g)

-- "final weight then 12"
pub final_refusals : (c : Composition) (t : Triple) (k : ℕ) → final_at c t ≡ refused k → k ≡ 12
unfolding final_at
final_refusals c t k = go (A.is_final t.s1 && B.is_final t.s2) (times c.kind (A.final_weight t.s1) (B.final_weight t.s2))
  where
    A : Machine
    A = c.operand1.machine

    B : Machine
    B = c.operand2.machine

    go : (b : Bool) (o : Option ℕ) → cond b (unless_zero c.kind o) (good None) ≡ refused k → k ≡ 12
    go true None e = refused_is (sym e)
    go true (Some w) e = absurd (good≢refused e)
    go false o e = absurd (good≢refused e)
