-- What an exact weighing tells of storing: no refusal, and the steps fit; or 13.
use mathlib.Core.Path.{◌≡◌, sym, ◌∙◌, ap, subst}
use mathlib.Core.List.{List}
use Rattle.std.specs.Prelude.{Option, Result}
use Prim.Native.Nat.{ℕ}
use Rattle.words.specs.Labels.{Checked, good, refused, and_then}
use Rattle.words.specs.Steps.{Step}
use Rattle.words.proofs.CheckedLaws.{good≢refused, refused_is}
use Rattle.calls.specs.Store.{Store}
use Rattle.calls.specs.Calls.{store_steps}
use Rattle.stored_steps.specs.Storing.{Accepted, Fits}
use Rattle.stored_steps.proofs.AllSteps.{accepted_fits}
use Rattle.fst.specs.declared.refusals.Refusal.{Refusal}
use Rattle.store_records.specs.declared.Used.{Used}
use Rattle.compose_weigh.specs.Weigh.{weigh_of}
use Rattle.compose_plan.specs.Storing.{StoredIs}

module _ (d : Store) (steps : List (Checked Step)) (exact : weigh_of d steps ≡ and_then (store_steps d steps) (λ e. good tt)) where
  pub clear_fits : weigh_of d steps ≡ good tt → Fits d steps
  clear_fits e = accepted_fits d steps (go (store_steps d steps) (sym exact ∙ e))
    where
      go : (x : Checked Store) → ◌≡◌ {A = Checked (Unit {0})} (and_then x (λ s. good tt)) (good tt) → Accepted x
      go (good s) h = tt
      go (refused n) h = absurd (good≢refused (sym h))

  pub lacks_refused : weigh_of d steps ≡ refused 13 → store_steps d steps ≡ refused 13
  lacks_refused e = go (store_steps d steps) (sym exact ∙ e)
    where
      go : (x : Checked Store) → ◌≡◌ {A = Checked (Unit {0})} (and_then x (λ s. good tt)) (refused 13) → x ≡ refused 13
      go (good s) h = absurd (good≢refused h)
      go (refused n) h = ap refused (refused_is h)

-- what became of steps, said of the same steps in other words
pub stored_by : (d : Store) (u : Used) (heads states trs : List ℕ) (r : Result (Option Used) Refusal) {a b : List (Checked Step)} → a ≡ b → StoredIs d u a heads states trs r → StoredIs d u b heads states trs r
stored_by d u heads states trs r e h = subst (λ (l : List (Checked Step)). StoredIs d u l heads states trs r) e h
