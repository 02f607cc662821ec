-- The form of a store that fits is judged by its whole records: the rest of words is not read.
use mathlib.Core.Path.{◌≡◌, ap₂}
use mathlib.Core.Bool.{true, ◌&&◌}
use mathlib.Core.List.{List}
use Prim.Native.Nat.{ℕ, ◌<◌, ◌≤◌}
use native.Mathlib.Omega.{arith}
use lib.Dec.{leb}
use borrow.Author.Tests.{leb-true}
use Rattle.lists.specs.Lists.{interval}
use Rattle.lists.proofs.Members.{and_left, and_right, of_interval, every_same}
use Rattle.calls.specs.Store.{Store, state_size, tr_size, room_of, state_field, expanded_place, target_at, tr_next_at, expanded_with, first_with, next_with, state_room_with, tr_room_with}
use Rattle.calls.specs.Forms.{fits, heads_ok, state_form_ok, tr_form_ok, form_ok, expanded_ok_with, fits_with, form_ok_with, state_form_ok_with, triple_ok_with}
use Rattle.calls.proofs.RecordLaws.{first_place, next_place, triple_same}
use Rattle.store_records.specs.Meaning.{stored}
use Rattle.store_records.proofs.RestLaws.{SameRecords, state_same, tr_same}

module _ (S1 S2 : ℕ) (d : Store) (states trs : List ℕ) (same : SameRecords state_size d.memory.states states) (same-trs : SameRecords tr_size d.memory.trs trs) where
  abbrev e : Store
  e = stored d.memory.heads states trs d.used.states d.used.trs

  state_rest : (n : ℕ) → n < room_of state_size d.memory.states → state_form_ok S1 S2 e n ≡ state_form_ok S1 S2 d n
  unfolding state_form_ok_with triple_ok_with expanded_ok_with expanded_with first_with next_with
  state_rest n h =
      let f : (k : ℕ) → k < state_size → state_field states n k ≡ state_field d.memory.states n k = λ k b. state_same same n k h b in
      rw (triple_same d.memory.states states n n (λ k b. f k (omega arith)), f expanded_place (omega arith), f first_place (omega arith), f next_place (omega arith))

  tr_rest : (i : ℕ) → i < room_of tr_size d.memory.trs → tr_form_ok e i ≡ tr_form_ok d i
  unfolding tr_form_ok target_at tr_next_at
  tr_rest i h = rw (tr_same same-trs i 3 h (omega arith), tr_same same-trs i 4 h (omega arith))

  pub form_rest : fits d ≡ true → form_ok S1 S2 e ≡ form_ok S1 S2 d
  unfolding fits_with state_room_with tr_room_with form_ok_with heads_ok
  form_rest h =
      let a : d.used.states ≤ room_of state_size d.memory.states = leb-true _ _ (and_left (leb d.used.states (room_of state_size d.memory.states)) _ h) in
      let b : d.used.trs ≤ room_of tr_size d.memory.trs = leb-true _ _ (and_right (leb d.used.states (room_of state_size d.memory.states)) _ h) in
      ap₂ (λ x y. heads_ok d && (x && y))
      (every_same (state_form_ok S1 S2 e) (state_form_ok S1 S2 d) (interval 0 d.used.states) (λ n i. let r = of_interval 0 d.used.states i in state_rest n (omega (arith, a, r.1))))
      (every_same (tr_form_ok e) (tr_form_ok d) (interval 0 d.used.trs) (λ n i. let r = of_interval 0 d.used.trs i in tr_rest n (omega (arith, b, r.1))))
