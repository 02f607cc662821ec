-- What is left from here on gives what all records give; at an exit the record in hand does not fit. The place is that of the record in hand.
use Prim.Native.Nat.{◌+◌, ◌-◌, ◌*◌}
use mathlib.Core.Path.{◌≡◌}
use mathlib.Core.Bool.{true}
use Rattle.lists.specs.Lists.{every, interval}
use Rattle.words.specs.Machines.{tr_count}
use Rattle.fst_properties.specs.RecordTests.{fits}
use Rattle.fst_properties.proofs.form.all_fit.Given as goal

abbrev pub invariant-records : goal.invariant-records
invariant-records l =
    (l.ok ≡ true) × (l.place ≡ l.asked.base + 5 * (l.done + 1))
    × (every (fits l.inputs l.outputs l.m) (interval (l.done + 1) (l.done-end - l.done)) ≡ every (fits l.inputs l.outputs l.m) (interval 1 (tr_count l.m)))
