-- The tests, in the order of `take_of`.
use mathlib.Core.Path.{◌≡◌, refl, ap, sym, ◌∙◌}
use mathlib.Core.Bool.{false}
use mathlib.Core.List.{[]}
use borrow.Author.Tests.{le-leb, lt-leb}
use Rattle.std.specs.Prelude.{Option, Some, None, is_some}
use Rattle.fst.specs.Meaning.{number_if}
use Rattle.fst.specs.declared.StateId.{StateId}
use Rattle.words.specs.Steps.{Triple}
use Rattle.calls.specs.Store.{Store, find, state_room_with}
use Rattle.triple_set.specs.Sets.{is_found, holds, take_of}
use Rattle.triple_set.proofs.take.Goals.{then-not-wanted-via-then-not-wanted, then-not-wanted-via-else-not-wanted+then-is_some}
use Rattle.triple_set.proofs.take.Goals as goal

-- what a look-up found is held
found_held : (d : Store) (t : Triple) (r : Option StateId) → number_if r ≡ find d t → holds d t ≡ is_some r
unfolding holds
found_held d t r e = ap is_found (sym e) ∙ go r
  where
    go : (r : Option StateId) → is_found (number_if r) ≡ is_some r
    go None = refl
    go (Some s) = refl

pub returns-then-not-wanted : goal.returns-then-not-wanted
unfolding take_of
returns-then-not-wanted c = elim c.then-not-wanted.branch [
  | then-not-wanted-via-then-not-wanted w ↦ rw w.if-not-wanted.true
  | then-not-wanted-via-else-not-wanted+then-is_some w ↦ rw (w.if-not-wanted.false, found_held _ _ _ (w.find_id.ensures [] 0), ← w.is_some.ensures, w.if-is_some.true)
]

pub returns-then-state_room-held : goal.returns-then-state_room-held
unfolding take_of state_room_with
returns-then-state_room-held c = rw (c.if-not-wanted.false, found_held _ _ _ (c.find_id.ensures [] 0), ← c.is_some.ensures, c.if-is_some.false, le-leb _ _ (rw c.state_room.ensures at c.if-state_room-held.true))

pub returns : goal.returns
unfolding take_of state_room_with
returns c =
    rw (c.if-not-wanted.false, found_held _ _ _ (c.find_id.ensures [] 0), ← c.is_some.ensures, c.if-is_some.false, lt-leb _ _ (rw c.state_room.ensures at c.if-state_room-held.false))
    (ap (λ (d : Store). (false, d)) (c.add_state.ensures [] 0))
