-- What is left of this list, and then of the states after it, gives what all lists give; at an exit the label in hand falls.
use Prim.Native.Nat.{◌+◌, ◌-◌, ◌≤◌, ◌<◌}
use mathlib.Core.Path.{◌≡◌}
use mathlib.Core.Bool.{true, ◌&&◌}
use lib.ListN.{length}
use Rattle.lists.specs.Lists.{every, interval}
use Rattle.words.specs.Machines.{tr_count, list_from, machine_of, sorted}
use Rattle.fst.specs.Meaning.{on_of, words_as_read}
use Rattle.fst_properties.proofs.Falls.{list_sorted}
use Rattle.fst_properties.proofs.Walked.{from_on_lem, SeenSorted, Walked}
use Rattle.fst_properties.proofs.properties.lists_sorted.Given as goal

abbrev pub invariant-list : goal.invariant-list
invariant-list l =
    let words = words_as_read l.m in
    let on = on_of l.m.on in
    (l.ok ≡ true)
    × (l.s < l.n)
    × (l.t ≤ tr_count words)
    × Walked on words l.records l.seen l.low.0 l.t
    × (from_on_lem on words l.low.0 l.t && every (list_sorted on words) (interval (l.s + 1) (l.n - (l.s + 1))) ≡ sorted on (machine_of words))

abbrev pub decreases-list : goal.decreases-list
decreases-list l = length (list_from (words_as_read l.m) l.t)

abbrev pub invariant-states : goal.invariant-states
invariant-states l =
    let words = words_as_read l.m in
    let on = on_of l.m.on in
    (l.ok ≡ true) × SeenSorted on words l.records l.seen × (every (list_sorted on words) (interval l.s (l.n - l.s)) ≡ sorted on (machine_of words))
