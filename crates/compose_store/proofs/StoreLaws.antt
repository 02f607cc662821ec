-- One step of the storing: the state that it reaches, and what it leaves where there is a record for each thing that it writes.
use mathlib.Core.Path.{◌≡◌}
use mathlib.Core.Bool.{Bool, true, false}
use mathlib.Core.List.{List}
use Rattle.std.specs.Prelude.{Option, None, Some}
use Prim.Native.Nat.{ℕ, ◌<◌}
use lib.Dec.{leb}
use borrow.Author.Tests.{lt-leb}
use Rattle.words.specs.Labels.{good, refuse_if}
use Rattle.words.specs.Steps.{Triple, Step}
use Rattle.calls.specs.Store.{Store, state_size, room_of, state_room, tr_room, find, add, append, chain_with, find_with, state_room_with}
use Rattle.calls.specs.Calls.{Reached, reached_by, reach, store_step, reach_with, store_step_with}
use Rattle.store_records.specs.Meaning.{stored}
use Rattle.compose_store.specs.Meaning.{Accepted}

pub reach_found : (d : Store) (t : Triple) (n : ℕ) → find d t ≡ Some n → reach d t ≡ good (record { store = d; state = n })
unfolding reach_with
reach_found d t n e = rw e

pub reach_new : (d : Store) (t : Triple) → find d t ≡ None → d.used.states < state_room d.memory → reach d t ≡ good (record { store = add d t; state = d.used.states })
unfolding reach_with
reach_new d t e h = rw (e, lt-leb _ _ h)

room_any : (b : Bool) (x y : Reached) → Accepted (refuse_if b 13 (good x)) → Accepted (refuse_if b 13 (good y))
room_any true x y h = h
room_any false x y h = tt

find_any : (heads states : List ℕ) (n : ℕ) (t : Triple) (trs other : List ℕ) (k j : ℕ) (o : Option ℕ) → Accepted (reached_by (stored heads states trs n k) t o) → Accepted (reached_by (stored heads states other n j) t o)
unfolding state_room_with
find_any heads states n t trs other k j (Some m) h = tt
find_any heads states n t trs other k j None h =
    room_any (leb (room_of state_size states) n) (record { store = add (stored heads states trs n k) t; state = n }) (record { store = add (stored heads states other n j) t; state = n }) h

-- transitions play no part in reaching a triple
pub reach_any : (heads states : List ℕ) (n : ℕ) (t : Triple) (trs other : List ℕ) (k j : ℕ) → Accepted (reach (stored heads states trs n k) t) → Accepted (reach (stored heads states other n j) t)
unfolding reach_with find_with chain_with
reach_any heads states n t trs other k j h = find_any heads states n t trs other k j (find (stored heads states trs n k) t) h

pub step_is : (d : Store) (next : ℕ) (st : Step) (r : Reached) → d.used.trs < tr_room d.memory → good r ≡ reach d st.to → store_step d next st ≡ good (append r.store st r.state next)
unfolding store_step_with
step_is d next st r h e = rw (lt-leb (tr_room d.memory) d.used.trs h, ← e)
