-- Where the checks 1 to 8 passed, on any memory: the targets of a found state's steps are in range, so the weighing of its expansion is exact.
use mathlib.Core.Path.{◌≡◌, subst}
use mathlib.Core.List.{Memᴰ as In}
use Prim.Native.Nat.{ℕ, ◌<◌}
use native.Mathlib.Omega.{arith}
use Rattle.words.specs.Labels.{good, and_then}
use Rattle.words.specs.Machines.{state_count}
use Rattle.words.specs.Steps.{Composition, Step, steps_at}
use Rattle.words.specs.Settings.{Lent}
use Rattle.words.proofs.StepRange.{InRange, steps_in_range}
use Rattle.calls.specs.Store.{Memory, triple_at}
use Rattle.calls.specs.Checks.{Session, store_of}
use Rattle.calls.specs.Calls.{store_steps}
use Rattle.calls.proofs.ExpandKept.{Entered, sided}
use Rattle.compose_weigh.specs.Weigh.{weigh_of}
use Rattle.compose_weigh.proofs.WeighLaws.{weigh_exact}

module _ (l : Lent) (s : Session) (m : Memory) (c : Composition) (h : Entered l s m c) where
  targets_in_range : (n : ℕ) → n < s.used.states → (st : Step) → In (good st) (steps_at c (triple_at m.states n)) → InRange (state_count l.m1) (state_count l.m2) st.to
  targets_in_range n found st i =
      let z = sided s.settings l h.side h.rule in
      let t = triple_at m.states n in
      steps_in_range s.settings l h.side z.formed1 z.formed2 z.rule t (h.form.state n found).triple st (subst (λ o. In (good st) (steps_at o t)) h.composition i)

  pub weigh_entered : (n : ℕ) → n < s.used.states
      → weigh_of (store_of s m) (steps_at c (triple_at m.states n)) ≡ and_then (store_steps (store_of s m) (steps_at c (triple_at m.states n))) (λ e. good tt)
  weigh_entered n found = weigh_exact (store_of s m) (steps_at c (triple_at m.states n)) h.form (targets_in_range n found) (omega (arith, found))
