-- "Room is whole records": the words past them, which make no whole record or lie past the limit, are not written. What it means that they are not read is said with `SameRecords`:
-- two slices of one length that hold the same whole records and may differ in the rest.
use mathlib.Core.Path.{◌≡◌}
use mathlib.Core.List.{List, [], ◌∷◌}
use Prim.Native.Nat.{ℕ, ◌+◌, ◌*◌, ◌≤◌, ◌<◌}
use native.Mathlib.Omega.{arith}
use lib.ListN.{length, get_or}
use Rattle.lists.proofs.Put.{put_after}
use Rattle.words.specs.Steps.{Triple, Step}
use Rattle.calls.specs.Store.{Store, state_size, tr_size, room_of, state_room, tr_room, state_field, expanded_place, tr_field, head_of, state_record, add, tr_record, append, mark, add_with, field_of, mark_with, state_room_with, tr_room_with}

pub record SameRecords (size : ℕ) (s r : List ℕ) : Type 0 where
  pub long : length r ≡ length s
  pub words : (i : ℕ) → i < size * room_of size s → get_or r i 0 ≡ get_or s i 0

-- the words of a record within the room
pub state_same : {s r : List ℕ} → SameRecords state_size s r → (n k : ℕ) → n < room_of state_size s → k < state_size → state_field r n k ≡ state_field s n k
unfolding field_of
state_same h n k l b = h.words (state_size * n + k) (omega arith)

pub tr_same : {s r : List ℕ} → SameRecords tr_size s r → (i k : ℕ) → i < room_of tr_size s → k < tr_size → tr_field r i k ≡ tr_field s i k
unfolding field_of
tr_same h i k l b = h.words (tr_size * i + k) (omega arith)

-- a word past the room, after a record is added or marked
module _ (d : Store) (i : ℕ) where
  pub add_rest : (t : Triple) → d.used.states < state_room d.memory → state_size * state_room d.memory ≤ i → get_or (add d t).memory.states i 0 ≡ get_or d.memory.states i 0
  unfolding add_with state_room_with
  add_rest t h l = put_after d.memory.states (state_size * d.used.states) (state_record t (head_of d.memory.heads t)) i 0 (omega arith)

  pub append_rest : (st : Step) (target next : ℕ) → d.used.trs < tr_room d.memory → tr_size * tr_room d.memory ≤ i
      → get_or (append d st target next).memory.trs i 0 ≡ get_or d.memory.trs i 0
  unfolding append tr_room_with
  append_rest st target next h l = put_after d.memory.trs (tr_size * d.used.trs) (tr_record st target next) i 0 (omega arith)

  pub mark_rest : (n first : ℕ) → n < state_room d.memory → state_size * state_room d.memory ≤ i → get_or (mark d n first).memory.states i 0 ≡ get_or d.memory.states i 0
  unfolding mark_with state_room_with
  mark_rest n first h l = put_after d.memory.states (state_size * n + expanded_place) (1 ∷ first ∷ []) i 0 (omega arith)
