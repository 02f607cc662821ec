-- The word at its place, which is in range.
use native.Mathlib.Omega.{arith}
use borrow.Author.Rules.{rules}
use Rattle.calls.specs.Store.{state_size, field_of}
use Rattle.calls.proofs.RecordLaws.{room_words}
use Rattle.store_records.proofs.state_records.word_in.Goals as goal

pub bounds-states-n : goal.bounds-states-n
bounds-states-n c =
    let r = (room_words state_size c.args.states.now _ c.requires.0).1 in
    omega (arith, r, c.requires.1)

pub returns : goal.returns
unfolding field_of
returns c = search rules
