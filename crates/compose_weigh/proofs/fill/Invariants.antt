-- The set holds the targets that the table lacks of the steps up to here.
use mathlib.Core.Path.{◌≡◌}
use Prim.Native.Nat.{◌+◌, ◌-◌, ◌^◌, ◌<◌}
use lib.ListN.{length}
use Rattle.calls.specs.Store.{room_of, state_size}
use Rattle.store_records.specs.Meaning.{stored}
use Rattle.triple_set.specs.Sets.{set_of}
use Rattle.compose_fst_op.specs.Composing.{lent_of}
use Rattle.compose_moves.specs.Cursors.{steps_left}
use Rattle.compose_weigh.proofs.SetTurns.{Filling}
use Rattle.compose_weigh.proofs.fill.Given as goal

abbrev pub invariant-loop-weighed : goal.invariant-loop-weighed
invariant-loop-weighed l =
    (l.held < 2 ^ 32) × (l.w.used.trs + l.count < 2 ^ 32) × (length l.chains ≡ length l.initial.chains) × (length l.records ≡ length l.initial.records)
    × Filling (stored l.heads l.states l.trs l.w.used.states l.w.used.trs) l.before (steps_left l.w.options (lent_of l.w.options l.m1 l.m2 l.a1 l.a2 l.ignored) l.initial.cursor)
    (steps_left l.w.options (lent_of l.w.options l.m1 l.m2 l.a1 l.a2 l.ignored) l.cursor) l.count (room_of state_size l.initial.records) (set_of l.chains l.records l.held)

abbrev pub decreases-loop-weighed : goal.decreases-loop-weighed
decreases-loop-weighed l = 2 ^ 32 - (l.w.used.trs + l.count)
