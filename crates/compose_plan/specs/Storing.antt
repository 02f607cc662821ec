-- What becomes of steps of which none is a refusal, where their room may be tight.
use Rattle.std.specs.Prelude.{◌≡◌, Bool, true, List, ℕ, Option, None, Some, Result, Ok, Err}
use Rattle.words.specs.Labels.{Checked, good, refused, and_then}
use Rattle.words.specs.Steps.{Step}
use Rattle.calls.specs.Store.{Store}
use Rattle.calls.specs.Calls.{store_steps}
use Rattle.fst.specs.Refusals.{number_of}
use Rattle.fst.specs.declared.refusals.Refusal.{Refusal}
use Rattle.fst.specs.declared.refusals.Refusal.TheVariants.{NoRoom}
use Rattle.store_records.specs.declared.Used.{Used}
use Rattle.store_records.specs.Meaning.{store_in}
use Rattle.stored_steps.specs.Storing.{store_all, AllGood, Fits}
use Rattle.stored_steps.specs.Chains.{Chained}
use Rattle.compose_weigh.specs.Weigh.{weigh_of}

-- the steps may be weighed and stored in d: none is a refusal, the weighing is exact, and where their room is sure they fit
pub record Weighable (d : Store) (sure : Bool) (steps : List (Checked Step)) : Type 0 where
  pub good_steps : AllGood steps
  pub chained : Chained d
  pub fit : sure ≡ true → Fits d steps
  pub exact : weigh_of d steps ≡ and_then (store_steps d steps) (λ e. good tt)

-- what the slices are after it: all steps are stored, and they fit; or nothing is changed; or storing them is refused for lack of room, and nothing is changed
abbrev pub StoredIs : Store → Used → List (Checked Step) → (heads states trs : List ℕ) → Result (Option Used) Refusal → Type 0
StoredIs d u steps heads states trs (Ok (Some v)) = (store_in heads states trs v ≡ store_all d steps) × Fits d steps
StoredIs d u steps heads states trs (Ok None) = store_in heads states trs u ≡ d
StoredIs d u steps heads states trs (Err refusal) = (store_in heads states trs u ≡ d) × (refusal ≡ NoRoom) × (store_steps d steps ≡ refused (number_of refusal))
