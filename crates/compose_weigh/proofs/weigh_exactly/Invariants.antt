-- Each window ends the weighing, or moves it on.
use Prim.Native.Nat.{◌+◌, ◌-◌, ◌^◌, ◌<◌}
use Rattle.store_records.specs.Meaning.{stored}
use Rattle.compose_fst_op.specs.Composing.{lent_of}
use Rattle.compose_moves.specs.Cursors.{steps_left}
use Rattle.compose_weigh.proofs.ExactTurns.{Weighs}
use Rattle.compose_weigh.proofs.weigh_exactly.Given as goal

abbrev pub invariant-loop-left : goal.invariant-loop-left
invariant-loop-left l =
    (l.left < 2 ^ 32) × (l.w.used.trs + l.before < 2 ^ 32)
    × Weighs (stored l.heads l.states l.trs l.w.used.states l.w.used.trs) (steps_left l.w.options (lent_of l.w.options l.m1 l.m2 l.a1 l.a2 l.ignored) l.w.start) l.before l.left (steps_left l.w.options (lent_of l.w.options l.m1 l.m2 l.a1 l.a2 l.ignored) l.cursor)

abbrev pub decreases-loop-left : goal.decreases-loop-left
decreases-loop-left l = 2 ^ 32 - (l.w.used.trs + l.before)
