-- The accepting paths of a store and those of the machine that it holds are the same lists of records, with the same weights.
use mathlib.Core.Path.{◌≡◌, refl, sym, ◌∙◌, ap, subst}
use mathlib.Core.Bool.{true, false≢true}
use mathlib.Core.List.{List, [], ◌∷◌}
use mathlib.Core.Logic.{◌↔◌}
use Rattle.std.specs.Prelude.{Option, None, Some}
use Rattle.std.proofs.lemmas.Option.{none-some}
use Prim.Native.Nat.{ℕ, zero, suc, ◌<◌}
use native.Mathlib.Omega.{arith}
use Rattle.papers.specs.Weight.{semiring}
use Rattle.papers.specs.Paths.{Accepting as AcceptingAt}
use Rattle.words.specs.Labels.{Checked, good, refused}
use Rattle.words.specs.Machines.{state_count}
use Rattle.words.specs.Weights.{zero_of}
use Rattle.words.specs.Steps.{Composition, final_at}
use Rattle.words.specs.Settings.{Lent}
use Rattle.words.specs.AsPapers.{exact}
use Rattle.calls.specs.Forms.{form_ok}
use Rattle.calls.specs.Checks.{entered}
use Rattle.calls.specs.Sequences.{World}
use Rattle.graphs.specs.Walks.{Bounded}
use Rattle.graphs.specs.StoreMachine.{first_state, answered, weight_in}
use Rattle.graphs.proofs.Entered.{within}
use Rattle.graphs.proofs.StoreLaws.{store_bounded, store_final_exact}
use Rattle.readings.specs.Worlds.{final_in, UsedState, state_at, weight_of, target_of}
use Rattle.readings.specs.StorePaths.{AcceptingFrom, AcceptingRecords, Accepting, weight_from, answered_weight, records_weight}
use Rattle.readings.proofs.PathEnds.{final_answer}
use Rattle.trim_readings.specs.TrimClaims.{store_in, held_in, AllExpanded}
use Rattle.trim_readings.proofs.Right.{first_zero}

-- a final state's weight is answered
given : (r : Checked (Option ℕ)) → answered r ≡ true → (x : ℕ) × (r ≡ good (Some x))
given (good (Some x)) e = (x, refl)
given (good None) e = absurd (false≢true e)
given (refused n) e = absurd (false≢true e)

-- a machine of used states has a start, which is state 0
first_some : (u : ℕ) → 0 < u → first_state u ≡ Some 0
first_some zero h = absurd (omega arith)
first_some (suc u) h = refl

first_used : (u a : ℕ) → first_state u ≡ Some a → 0 < u
first_used zero a e = absurd (none-some a e)
first_used (suc u) a e = omega arith

module _ (l : Lent) (c : Composition) (w : World) (enters : entered l w.session w.memory ≡ good c) where
  -- form holds
  pub held_form : form_ok (state_count l.m1) (state_count l.m2) (store_in w) ≡ true
  held_form = (within l w.session w.memory c enters).form

  pub held_bounded : Bounded (held_in c w)
  held_bounded = store_bounded c (store_in w) (state_count l.m1) (state_count l.m2) held_form

  -- a used state's final weight, answered and as the machine has it
  answer_is : (n x : ℕ) → UsedState w n → (final_in l w n).answer ≡ good (Some x) → final_at c (state_at w n) ≡ good (Some x)
  answer_is n x u e = sym (final_answer l c w enters n u) ∙ e

  to_held : (rs : List ℕ) (n : ℕ) → UsedState w n → AcceptingFrom l w n rs → AcceptingAt (semiring c.kind) (exact c.kind) (held_in c w) n rs
  to_held [] n u h = let f : (held_in c w).is_final n ≡ true = ap answered (answer_is n h.0 u h.1) in (f, store_final_exact c (store_in w) n f)
  to_held (r ∷ rs) n u h = (h.1, to_held rs (target_of w r) (held_bounded.target_below n r u h.1) h.2)

  of_held : AllExpanded w → (rs : List ℕ) (n : ℕ) → UsedState w n → AcceptingAt (semiring c.kind) (exact c.kind) (held_in c w) n rs → AcceptingFrom l w n rs
  of_held a [] n u h = let g = given (final_at c (state_at w n)) h.0 in (g.0, final_answer l c w enters n u ∙ g.1)
  of_held a (r ∷ rs) n u h = (a n u, h.0, of_held a rs (target_of w r) (held_bounded.target_below n r u h.0) h.1)

  -- a path of records that the store accepts is one of its machine
  pub held_accepts : (rs : List ℕ) → AcceptingRecords l w rs → Accepting c (held_in c w) rs
  held_accepts rs h = (0, first_some w.session.used.states h.0, to_held rs 0 h.0 h.1)

  -- and where all used states are expanded the other way too
  pub held_paths : AllExpanded w → (rs : List ℕ) → AcceptingRecords l w rs ↔ Accepting c (held_in c w) rs
  held_paths a rs = (
    held_accepts rs,
    λ h. let u = first_used w.session.used.states h.0 h.1 in
        let z = subst (λ (q : ℕ). AcceptingAt (semiring c.kind) (exact c.kind) (held_in c w) q rs) (first_zero w.session.used.states h.0 h.1) h.2 in
        (u, of_held a rs 0 u z),
  )

  -- they weigh the same from every used state on
  weighs_from : (rs : List ℕ) (n : ℕ) → UsedState w n → AcceptingFrom l w n rs → records_weight c.kind l w n rs ≡ weight_from c (held_in c w) n rs
  weighs_from [] n u h =
      ap (λ (r : Checked (Option ℕ)). exact c.kind (answered_weight (zero_of c.kind) r)) h.1
      ∙ ap (λ (r : Checked (Option ℕ)). exact c.kind (weight_in r)) (sym (answer_is n h.0 u h.1))
  weighs_from (r ∷ rs) n u h =
      ap ((semiring c.kind).times (exact c.kind (weight_of w r))) (weighs_from rs (target_of w r) (held_bounded.target_below n r u h.1) h.2)

  pub held_weights : (rs : List ℕ) → AcceptingRecords l w rs → records_weight c.kind l w 0 rs ≡ weight_from c (held_in c w) 0 rs
  held_weights rs h = weighs_from rs 0 h.0 h.1
