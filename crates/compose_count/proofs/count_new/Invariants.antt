-- The sum is at most that of the classes that were counted, and just that where no set was full.
use mathlib.Core.Path.{◌≡◌}
use mathlib.Core.Bool.{false}
use mathlib.Core.List.{List}
use Prim.Native.Nat.{ℕ, ◌≤◌}
use lib.ListN.{length}
use Rattle.store_records.specs.Meaning.{store_in}
use Rattle.compose_walk.specs.Plans.{plan_steps}
use Rattle.compose_count.proofs.ClassLaws.{lacked_below}
use Rattle.compose_count.proofs.count_new.Given as goal

abbrev pub invariant-loop-class : goal.invariant-loop-class
invariant-loop-class l = record {
  enough : l.sum ≤ l.left;
  told : (trs : List ℕ) →
      let n = lacked_below (store_in l.heads l.states trs l.used) l.classes (length (plan_steps l.plan l.mw l.mm)) (plan_steps l.plan l.mw l.mm) l.class in
      (l.sum ≤ n) × (l.full ≡ false → l.sum ≡ n);
}
