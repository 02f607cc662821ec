-- One step: it is accepted just where it has its records, and then it is stored with its link; a link may be ended later.
use mathlib.Core.Path.{◌≡◌, refl, ◌∙◌, ap}
use mathlib.Core.Bool.{Bool, true, false}
use mathlib.Core.List.{List, [], ◌∷◌}
use Rattle.std.specs.Prelude.{Option, None, Some}
use Prim.Native.Nat.{ℕ, suc, ◌+◌, ◌-◌, ◌*◌, ◌<◌}
use native.Mathlib.Omega.{arith}
use lib.Dec.{leb}
use lib.ListN.{set}
use lib.Seq.{set-set}
use borrow.Author.Tests.{leb-false, lt-leb}
use Rattle.lists.specs.Lists.{put}
use Rattle.words.specs.Labels.{Checked, good, refused, refuse_if, and_then}
use Rattle.words.specs.Steps.{Triple, Step}
use Rattle.calls.specs.Store.{Store, tr_size, state_room, tr_room, tr_record, find, add, append}
use Rattle.calls.specs.Calls.{reached_by, reach, store_step, reach_with, store_step_with}
use Rattle.stored_steps.specs.Storing.{Accepted, found_or, place, store_linked, end_link, Room}

-- an accepted check did not stand
pub accepted_past : {A : Type 0} (b : Bool) (n : ℕ) (x : Checked A) → Accepted (refuse_if b n x) → (b ≡ false) × Accepted x
accepted_past true n x h = absurd h
accepted_past false n x h = (refl, h)

-- a value taken further: the first part has one
pub accepted_then : {A B : Type 0} (x : Checked A) (g : A → Checked B) → Accepted (and_then x g) → Accepted x
accepted_then (good a) g h = tt
accepted_then (refused n) g h = absurd h

-- a new state has a record
pub new_room : (d : Store) (t : Triple) → find d t ≡ None → Accepted (reach d t) → d.used.states < state_room d.memory
unfolding reach_with
new_room d t e h = leb-false _ _ (accepted_past (leb (state_room d.memory) d.used.states) 13 (good (record { store = add d t; state = d.used.states })) (rw e at h)).0

-- the step's transition has a record
pub step_room : (d : Store) (next : ℕ) (st : Step) → Accepted (store_step d next st) → (d.used.trs < tr_room d.memory) × Accepted (reach d st.to)
unfolding store_step_with
step_room d next st h =
    let p = accepted_past (leb (tr_room d.memory) d.used.trs) 13 (and_then (reach d st.to) (λ r. good (append r.store st r.state next))) h in
    (leb-false _ _ p.0, accepted_then (reach d st.to) (λ r. good (append r.store st r.state next)) p.1)

-- an accepted step has its records
pub accepted_room : (d : Store) (st : Step) (next : ℕ) → Accepted (store_step d next st) → Room d st
accepted_room d st next h = let p = step_room d next st h in record { tr = p.0; state = λ e. new_room d st.to e p.1 }

-- a state of the table: found, or new where there is a record
reached : (d : Store) (t : Triple) → (find d t ≡ None → d.used.states < state_room d.memory) → reach d t ≡ good (place d t)
unfolding reach_with place
reached d t h = go (find d t) refl
  where
    go : (o : Option ℕ) → find d t ≡ o → reached_by d t o ≡ good (found_or d t o)
    go (Some n) e = refl
    go None e = rw (lt-leb (state_room d.memory) d.used.states (h e))

-- the two ways of a place
pub place_found : (d : Store) (t : Triple) (n : ℕ) → find d t ≡ Some n → place d t ≡ record { store = d; state = n }
unfolding place
place_found d t n e = rw e

pub place_new : (d : Store) (t : Triple) → find d t ≡ None → place d t ≡ record { store = add d t; state = d.used.states }
unfolding place
place_new d t e = rw e

-- with its records a step is stored, whatever its link
pub room_stores : (d : Store) (st : Step) (next : ℕ) → Room d st → store_step d next st ≡ good (store_linked d st next)
unfolding store_step_with
room_stores d st next r = rw (lt-leb (tr_room d.memory) d.used.trs r.tr, reached d st.to r.state)

-- the last word of a record written again
last_word : (l : List ℕ) (u : ℕ) (st : Step) (target next : ℕ) → put (put l (tr_size * u) (tr_record st target next)) (tr_size * (u + 1) - 1) (0 ∷ []) ≡ put l (tr_size * u) (tr_record st target 0)
unfolding put
last_word l u st target next =
    let z : tr_size * (u + 1) - 1 ≡ suc (suc (suc (suc (tr_size * u)))) = omega arith in
    let w : List ℕ = set (set (set (set l (tr_size * u) st.input) (suc (tr_size * u)) st.output) (suc (suc (tr_size * u))) st.weight) (suc (suc (suc (tr_size * u)))) target in
    ap (λ (k : ℕ). set (set w (suc (suc (suc (suc (tr_size * u))))) next) k 0) z ∙ set-set w (suc (suc (suc (suc (tr_size * u))))) next 0

-- the link of the transition just stored becomes 0
pub end_append : (d : Store) (st : Step) (target next : ℕ) → end_link (append d st target next) ≡ append d st target 0
unfolding end_link append
end_append d st target next i = record {
  memory = record { heads = d.memory.heads; states = d.memory.states; trs = last_word d.memory.trs d.used.trs st target next i };
  used = record { states = d.used.states; trs = d.used.trs + 1 };
}
