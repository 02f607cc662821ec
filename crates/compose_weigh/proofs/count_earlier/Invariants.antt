-- The marked triples are those that the steps up to here go to.
use mathlib.Core.Path.{◌≡◌}
use mathlib.Core.Bool.{Bool}
use mathlib.Core.List.{List}
use Prim.Native.Nat.{ℕ, ◌-◌, ◌≤◌}
use lib.ListN.{length}
use Rattle.words.specs.Labels.{Checked}
use Rattle.words.specs.Steps.{Triple, Step}
use Rattle.triple_set.specs.Sets.{set_of}
use Rattle.compose_fst_op.specs.Composing.{lent_of}
use Rattle.compose_moves.specs.Cursors.{steps_left}
use Rattle.compose_weigh.specs.Windows.{set_room, Filled}
use Rattle.compose_weigh.proofs.SetTurns.{Earlier}
use Rattle.compose_weigh.proofs.count_earlier.Given as goal

abbrev pub invariant-loop : goal.invariant-loop
invariant-loop l =
    (l.old ≤ l.counter) × (length l.marks ≡ set_room)
    × ((P : Triple → Bool) (k : ℕ) (steps : List (Checked Step)) (room : ℕ) → room ≤ set_room → Filled P k steps room (set_of l.chains l.records l.held)
    → Earlier P k steps (set_of l.chains l.records l.held) l.count (steps_left l.options (lent_of l.options l.m1 l.m2 l.a1 l.a2 l.ignored) l.initial.cursor) l.marks (l.count - l.counter) (steps_left l.options (lent_of l.options l.m1 l.m2 l.a1 l.a2 l.ignored) l.cursor) l.old)
