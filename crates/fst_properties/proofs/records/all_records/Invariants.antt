-- What is left from here on gives what the whole run gives; at an exit the record in hand fails.
use Prim.Native.Nat.{◌+◌, ◌-◌}
use mathlib.Core.Path.{◌≡◌}
use mathlib.Core.Bool.{true}
use Rattle.lists.specs.Lists.{every, interval}
use Rattle.fst.specs.Meaning.{on_of, words_as_read}
use Rattle.fst_properties.specs.RecordTests.{test_of}
use Rattle.fst_properties.proofs.records.all_records.Given as goal

abbrev pub invariant-records : goal.invariant-records
invariant-records l =
    let asked = test_of l.test (on_of l.m.on) (words_as_read l.m) in
    (l.ok ≡ true) × (every asked (interval (l.done + 1) (l.n - l.done)) ≡ every asked (interval 1 l.n))
