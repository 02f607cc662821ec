-- Records written into a slice of words: what a record's fields are afterwards, and that the others' stay.
use mathlib.Core.Path.{◌≡◌}
use mathlib.Core.List.{List}
use Prim.Native.Nat.{ℕ, zero, suc, ◌+◌, ◌*◌, ◌/◌, ◌≤◌, ◌<◌}
use native.Mathlib.Nat.{mul-le-mul_left, mul-div-le, le-div_iff_mul-le, div-zero}
use native.Mathlib.Omega.{arith}
use lib.ListN.{length, get_or}
use Rattle.lists.specs.Lists.{put}
use Rattle.lists.proofs.Put.{put_before, put_in}
use Rattle.words.specs.Machines.{limit}
use Rattle.calls.specs.Store.{state_size, room_of, state_field, triple_at, expanded_place, field_of, room_with}

-- the places of the first transition and of the link, which is the last word
abbrev pub first_place : ℕ
first_place = expanded_place + 1

abbrev pub next_place : ℕ
next_place = expanded_place + 2

-- room for n records is the words of each
pub room_words : (size : ℕ) (l : List ℕ) (n : ℕ) → n ≤ room_of size l → (n ≤ limit) × (size * n ≤ length l)
unfolding room_with
room_words size l n h =
    let few : n ≤ length l / size = omega arith in
    (omega (arith, h), omega (arith, mul-le-mul_left size few, mul-div-le (length l) size))

-- a slice that keeps its length keeps its room
pub room_same : (size : ℕ) (l r : List ℕ) → length r ≡ length l → room_of size r ≡ room_of size l
unfolding room_with
room_same size l r e = rw e

-- more words, no less room
pub room_more : (size : ℕ) (l r : List ℕ) → length l ≤ length r → room_of size l ≤ room_of size r
unfolding room_with
room_more zero l r h = rw (div-zero (length l), div-zero (length r)) (omega arith)
room_more (suc size) l r h =
    let whole = mul-div-le (length l) (suc size) in
    let few : length l / suc size ≤ length r / suc size = (le-div_iff_mul-le {k = suc size} (omega arith)).1 (omega (arith, whole)) in
    omega arith

-- a triple is read from the words before the mark
pub triple_same : (s r : List ℕ) (n m : ℕ) → ((k : ℕ) → k < expanded_place → state_field r m k ≡ state_field s n k) → triple_at r m ≡ triple_at s n
unfolding triple_at
triple_same s r n m same = rw (same 0 (omega arith), same 1 (omega arith), same 2 (omega arith))

module _ (s r : List ℕ) (used : ℕ) where
  -- the fields of a record before the one that is written
  pub field_before : (n k : ℕ) → n < used → k < state_size → state_field (put s (state_size * used) r) n k ≡ state_field s n k
  unfolding field_of
  field_before n k h l = put_before s (state_size * used) r (state_size * n + k) 0 (omega arith)

  -- the fields of the record that is written
  pub field_new : (k : ℕ) → k < length r → state_size * used + length r ≤ length s → state_field (put s (state_size * used) r) used k ≡ get_or r k 0
  unfolding field_of
  field_new k h f = put_in s (state_size * used) r k 0 h f

  pub triple_before : (n : ℕ) → n < used → triple_at (put s (state_size * used) r) n ≡ triple_at s n
  triple_before n h = triple_same s (put s (state_size * used) r) n n (λ k l. field_before n k h (omega arith))
