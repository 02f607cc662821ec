-- The weighing from here on, with no more states than are counted, answers what all of it does.
use mathlib.Core.Path.{◌≡◌}
use Prim.Native.Nat.{ℕ, ◌+◌, ◌-◌, ◌^◌, ◌≤◌, ◌<◌}
use Rattle.store_records.specs.Meaning.{stored}
use Rattle.compose_fst_op.specs.Composing.{lent_of}
use Rattle.compose_moves.specs.Cursors.{steps_left}
use Rattle.compose_weigh.specs.Weigh.{weigh_from, weigh_of}
use Rattle.compose_weigh.proofs.weigh_quickly.Given as goal

abbrev pub invariant-loop-weighed : goal.invariant-loop-weighed
invariant-loop-weighed l =
    (l.grown < 2 ^ 32) × (l.w.used.trs + l.count < 2 ^ 32)
    × ((u : ℕ) × (u ≤ l.grown) × (weigh_from (stored l.heads l.states l.trs l.w.used.states l.w.used.trs) (steps_left l.w.options (lent_of l.w.options l.m1 l.m2 l.a1 l.a2 l.ignored) l.w.start) l.count u (steps_left l.w.options (lent_of l.w.options l.m1 l.m2 l.a1 l.a2 l.ignored) l.cursor)
    ≡ weigh_of (stored l.heads l.states l.trs l.w.used.states l.w.used.trs) (steps_left l.w.options (lent_of l.w.options l.m1 l.m2 l.a1 l.a2 l.ignored) l.w.start)))

abbrev pub decreases-loop-weighed : goal.decreases-loop-weighed
decreases-loop-weighed l = 2 ^ 32 - (l.w.used.trs + l.count)
