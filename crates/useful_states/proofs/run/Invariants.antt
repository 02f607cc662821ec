-- The steps that are left give the whole.
use mathlib.Core.Path.{◌≡◌}
use mathlib.Core.List.{List}
use Prim.Native.Nat.{ℕ, ◌-◌}
use Rattle.store_records.specs.Meaning.{stored}
use Rattle.searches.specs.UsefulSearch.{run_of}
use Rattle.searches.specs.StoreLinks.{links_of}
use Rattle.useful_steps.specs.Meaning.{found_means}
use Rattle.useful_states.proofs.run.Given as goal

abbrev pub invariant-loop : goal.invariant-loop
invariant-loop l =
    (heads : List ℕ) (u : ℕ) →
    let L = links_of (stored heads l.states l.trs u l.used) in
    run_of L (l.most - l.counter) (found_means l.f l.work) ≡ run_of L l.most (found_means l.initial.f l.initial.work)
