-- What was counted and what is left from here on are as many as from the place asked.
use Prim.Native.Nat.{◌+◌, ◌≤◌}
use mathlib.Core.Path.{◌≡◌}
use lib.ListN.{length}
use Rattle.words.specs.Machines.{tr_count, list_from}
use Rattle.fst.specs.Meaning.{on_of, words_as_read}
use Rattle.matchers.specs.Cursors.{with_label}
use Rattle.counted_iter.proofs.count_label.Given as goal

abbrev pub invariant-loop-at : goal.invariant-loop-at
invariant-loop-at l =
    let words = words_as_read l.m in
    (l.at ≤ tr_count words) × (l.n + length (with_label (on_of l.m.on) words l.label.0 l.at) ≡ length (with_label (on_of l.m.on) words l.label.0 l.t))

abbrev pub decreases-loop-at : goal.decreases-loop-at
decreases-loop-at l = length (list_from (words_as_read l.m) l.at)
