-- The record with the old head for its next, and the new head.
use native.Mathlib.Omega.{arith}
use Rattle.calls.specs.Store.{head_of, add_with}
use Rattle.calls.proofs.RecordLaws.{room_words}
use Rattle.state_table.proofs.add_state.Goals as goal

pub returns : goal.returns
unfolding add_with head_of
returns c =
    λ trs k. rw (c.store.ensures, c.push_state.ensures, c.word-head.ensures, c.slot-at.ensures)

pub overflow_add-used : goal.overflow_add-used
overflow_add-used c = let r = room_words _ _ _ c.requires in omega (arith, r.0)
