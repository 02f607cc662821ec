-- What is left to store, from the answer in hand on, leaves what all of it does. The first step of an accepted rest is accepted, and no refusal comes.
use mathlib.Core.Path.{◌≡◌}
use lib.ListN.{length}
use Rattle.calls.specs.Calls.{store_steps}
use Rattle.store_records.specs.Meaning.{stored}
use Rattle.compose_fst_op.specs.Composing.{lent_of}
use Rattle.compose_moves.specs.Cursors.{next_means}
use Rattle.compose_store.specs.Meaning.{Accepted}
use Rattle.compose_store.proofs.StoreTurns.{asked_left}
use Rattle.compose_store.proofs.store_steps.Given as goal

abbrev pub invariant-loop-ahead : goal.invariant-loop-ahead
invariant-loop-ahead l =
    (length l.heads ≡ length l.initial.heads) × (length l.states ≡ length l.initial.states) × (length l.trs ≡ length l.initial.trs)
    × Accepted (store_steps (stored l.heads l.states l.trs l.grown.states l.grown.trs) (asked_left (next_means l.options (lent_of l.options l.m1 l.m2 l.a1 l.a2 l.ignored) l.ahead)))
    × (store_steps (stored l.heads l.states l.trs l.grown.states l.grown.trs) (asked_left (next_means l.options (lent_of l.options l.m1 l.m2 l.a1 l.a2 l.ignored) l.ahead))
    ≡ store_steps (stored l.initial.heads l.initial.states l.initial.trs l.initial.grown.states l.initial.grown.trs) (asked_left (next_means l.options (lent_of l.options l.m1 l.m2 l.a1 l.a2 l.ignored) l.initial.ahead)))

abbrev pub decreases-loop-ahead : goal.decreases-loop-ahead
decreases-loop-ahead l = length (asked_left (next_means l.options (lent_of l.options l.m1 l.m2 l.a1 l.a2 l.ignored) l.ahead))
