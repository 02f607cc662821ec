-- What the phase has left, and the loop, if it is due.
use Rattle.matchers.specs.Cursors.{held_words}
use Rattle.counted_iter.proofs.Counts.{count_loop}
use Rattle.counted_iter.proofs.count_left.Goals as goal

pub returns : goal.returns
returns c =
    let a = c.args in
    rw c.from.ensures (count_loop (held_words a.cursor a.ignored.now a.m.now) a.cursor _ c.count_phase.ensures.value)
