-- A set of triples is a table of states of its own, of which only the chains are used.
use Rattle.std.specs.Prelude.{Bool, true, false, not, ◌&&◌, List, [], ℕ, ◌<◌, eqb, leb, length, get_or, set, Option, None, Some}
use Rattle.words.specs.Steps.{Triple}
use Rattle.calls.specs.Store.{Store, state_room, find, add}
use Rattle.stored_steps.specs.Chains.{Chained}
use Rattle.store_records.specs.Meaning.{stored}
use Rattle.triple_set.specs.declared.Taken.{Taken}

-- the set in two slices that holds the first n records
abbrev pub set_of : List ℕ → List ℕ → ℕ → Store
set_of heads records n = stored heads records [] n 0

-- chains stay within the records, and there are heads
pub record Headed (d : Store) : Type 0 where
  pub chained : Chained d
  pub headed : 0 < length d.memory.heads

-- a record was found
abbrev pub is_found : Option ℕ → Bool
is_found None = false
is_found (Some n) = true

-- t is held
unfoldable pub holds : Store → Triple → Bool
holds d t = is_found (find d t)

-- what the code answers and leaves: whether there was no room, and the set
abbrev pub taken_means : Taken → (heads records : List ℕ) → Bool × Store
taken_means r heads records = (r.full, set_of heads records r.held)

-- t is taken in, or there is no room: then nothing is written
abbrev pub with_room : Bool → Store → Triple → Bool × Store
with_room true d t = (true, d)
with_room false d t = (false, add d t)

-- where t is to be taken in
abbrev pub take_if : Bool → Store → Triple → Bool × Store
take_if true d t = with_room (leb (state_room d.memory) d.used.states) d t
take_if false d t = (false, d)

-- the set after t was offered, and whether it was full for it
unfoldable pub take_of : Bool → Store → Triple → Bool × Store
take_of wanted d t = take_if (wanted && not (holds d t)) d t

-- mark n, where it was 0: 1, and the marks with it
abbrev pub mark_if : Bool → List ℕ → ℕ → ℕ × List ℕ
mark_if true marks n = (1, set marks n 1)
mark_if false marks n = (0, marks)

-- the mark of a record that was found; none: nothing is marked
abbrev pub mark_at : Option ℕ → List ℕ → ℕ × List ℕ
mark_at None marks = (0, marks)
mark_at (Some n) marks = mark_if (eqb (get_or marks n 0) 0) marks n

-- the marks after that of t, and 1 where it is new
unfoldable pub mark_of : Store → List ℕ → Triple → ℕ × List ℕ
mark_of d marks t = mark_at (find d t) marks
