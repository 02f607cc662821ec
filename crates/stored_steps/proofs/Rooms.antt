-- How many steps fit: a step takes one transition record and at most one state record, and rooms stay.
use mathlib.Core.Path.{◌≡◌, refl, ◌∙◌, ap}
use mathlib.Core.Bool.{true}
use mathlib.Core.List.{List, [], ◌∷◌}
use Rattle.std.specs.Prelude.{Option, None, Some}
use Prim.Native.Nat.{ℕ, ◌+◌, ◌-◌, ◌*◌, ◌≤◌}
use native.Mathlib.Omega.{arith}
use lib.ListN.{length}
use Rattle.lists.proofs.Put.{length_put}
use Rattle.words.specs.Labels.{Checked, good, refused}
use Rattle.words.specs.Steps.{Triple, Step}
use Rattle.calls.specs.Store.{Store, state_size, tr_size, state_room, tr_room, head_of, state_record, tr_record, find, add, append, add_with, state_room_with, tr_room_with}
use Rattle.calls.specs.Calls.{next_for}
use Rattle.calls.proofs.RecordLaws.{room_same}
use Rattle.stored_steps.specs.Storing.{found_or, place, store_one, Fits, AllGood}

-- from d to e: one state more at most, no transition, room as before
record Grown (d e : Store) : Type 0 where
  states : e.used.states ≤ d.used.states + 1
  trs : e.used.trs ≡ d.used.trs
  state_room_lem : state_room e.memory ≡ state_room d.memory
  tr_room_lem : tr_room e.memory ≡ tr_room d.memory

added : (d : Store) (t : Triple) → Grown d (add d t)
unfolding add_with state_room_with tr_room_with
added d t = record {
  states = omega arith;
  trs = refl;
  state_room_lem = room_same state_size d.memory.states _ (length_put d.memory.states (state_size * d.used.states) (state_record t (head_of d.memory.heads t)));
  tr_room_lem = refl;
}

placed : (d : Store) (t : Triple) → Grown d (place d t).store
unfolding place
placed d t = go (find d t)
  where
    go : (o : Option ℕ) → Grown d (found_or d t o).store
    go (Some n) = record { states = omega arith; trs = refl; state_room_lem = refl; tr_room_lem = refl }
    go None = added d t

pub one_trs : (d : Store) (st : Step) → (store_one d st).used.trs ≡ d.used.trs + 1
unfolding store_one append
one_trs d st = ap (λ (n : ℕ). n + 1) (placed d st.to).trs

pub one_states : (d : Store) (st : Step) → (store_one d st).used.states ≤ d.used.states + 1
unfolding store_one append
one_states d st = (placed d st.to).states

pub one_state_room : (d : Store) (st : Step) → state_room (store_one d st).memory ≡ state_room d.memory
unfolding store_one append state_room_with
one_state_room d st = (placed d st.to).state_room_lem

pub one_tr_room : (d : Store) (st : Step) → tr_room (store_one d st).memory ≡ tr_room d.memory
unfolding store_one append tr_room_with
one_tr_room d st =
    let e : Store = (place d st.to).store in
    room_same tr_size e.memory.trs _ (length_put e.memory.trs (tr_size * e.used.trs) (tr_record st (place d st.to).state (next_for d true))) ∙ (placed d st.to).tr_room_lem

-- good steps, no more than either room has left, fit
pub few_fit : (d : Store) (steps : List (Checked Step)) → AllGood steps → length steps ≤ state_room d.memory - d.used.states → length steps ≤ tr_room d.memory - d.used.trs → Fits d steps
few_fit d [] g a b = tt
few_fit d (refused n ∷ others) g a b = absurd g
few_fit d (good st ∷ others) g a b = (
  record { tr = omega (arith, b); state = λ e. omega (arith, a) },
  few_fit (store_one d st) others g.1 (omega (arith, a, one_states d st, one_state_room d st)) (omega (arith, b, one_trs d st, one_tr_room d st)),
)
