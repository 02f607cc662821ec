-- In memory in form the list of a state lies within the used records: the rest of words is neither counted nor handed back.
use mathlib.Core.Path.{◌≡◌, refl, sym, ◌∙◌, ap}
use mathlib.Core.List.{List, ◌∷◌}
use mathlib.Core.Logic.{◌⊎◌, ⊎_elim}
use Prim.Native.Nat.{ℕ, zero, suc, ◌+◌, ◌-◌, ◌*◌, ◌≤◌, ◌<◌}
use native.Mathlib.Omega.{arith}
use lib.ListN.{length, get_or, take, drop, length-drop}
use lib.Seq.{length-take-le, get_or-take, get_or-drop, ext_get_or}
use Rattle.lists.specs.Lists.{linked}
use Rattle.calls.specs.Store.{Store, state_size, tr_size, state_field, tr_next_at, first_at, part_at, first_with, part_with, state_room_with, tr_room_with}
use Rattle.calls.specs.Calls.{words_of_part}
use Rattle.calls.proofs.RecordLaws.{first_place, room_words}
use Rattle.calls.proofs.StoreForms.{Form}
use Rattle.store_records.specs.Meaning.{stored}
use Rattle.store_records.proofs.RestLaws.{SameRecords, state_same, tr_same}

-- each of the first `last` links ends, or leads to the record after it
abbrev Rises : (ℕ → ℕ) → ℕ → Type 0
Rises next last = (i : ℕ) → i < last → (next i ≡ 0) ⊎ ((next i ≡ i + 2) × (i + 1 < last))

within : (next : ℕ → ℕ) (last i : ℕ) → Rises next last → i < last → next i ≤ last
within next last i r h = ⊎_elim (λ e. omega arith) (λ e. omega (arith, e.0, e.1)) (r i h)

-- links that agree below `last` give the same places
linked_inside : (next other : ℕ → ℕ) (last k link : ℕ) → Rises next last → ((i : ℕ) → i < last → other i ≡ next i) → link ≤ last → linked other k link ≡ linked next k link
unfolding linked
linked_inside next other last zero link r e h = refl
linked_inside next other last (suc k) zero r e h = refl
linked_inside next other last (suc k) (suc i) r e h =
    ap (λ (l : List ℕ). i ∷ l) (ap (linked other k) (e i h) ∙ linked_inside next other last k (next i) r e (within next last i r h))

-- there are no more of them than records from the first one on
linked_short : (next : ℕ → ℕ) (last k link : ℕ) → Rises next last → link ≤ last → link - 1 + length (linked next k link) ≤ last
unfolding linked
linked_short next last zero link r h = omega arith
linked_short next last (suc k) zero r h = omega arith
linked_short next last (suc k) (suc i) r h =
    let rec = linked_short next last k (next i) r (within next last i r h) in
    ⊎_elim (λ e. rw e (ended k)) (λ e. omega (arith, e.0, e.1, rec)) (r i h)
  where
    ended : (k : ℕ) → suc i - 1 + suc (length (linked next k 0)) ≤ last
    ended zero = omega arith
    ended (suc k) = omega arith

-- the same words from place a on
part_same : (s r : List ℕ) (a k : ℕ) → length r ≡ length s → a + k ≤ length s → ((i : ℕ) → i < a + k → get_or r i 0 ≡ get_or s i 0) → take k (drop a r) ≡ take k (drop a s)
part_same s r a k e h w =
    let m : length (take k (drop a r)) ≡ k = length-take-le k (drop a r) (rw length-drop (omega arith)) in
    let n : length (take k (drop a s)) ≡ k = length-take-le k (drop a s) (rw length-drop (omega arith)) in
    ext_get_or 0 (take k (drop a r)) (take k (drop a s)) (m ∙ sym n)
    (λ i l. let b : i < k = omega (arith, m, l) in
    get_or-take k (drop a r) i 0 b ∙ get_or-drop a r i 0 ∙ w (a + i) (omega arith) ∙ sym (get_or-take k (drop a s) i 0 b ∙ get_or-drop a s i 0))

module _ {S1 S2 : ℕ} (d : Store) (form : Form S1 S2 d d.used.trs) (states trs : List ℕ) (same : SameRecords state_size d.memory.states states) (same-trs : SameRecords tr_size d.memory.trs trs) where
  abbrev V' : ℕ
  V' = d.used.trs

  rises : Rises (tr_next_at d.memory.trs) V'
  rises i h = (form.tr i h).next

  next_rest : (i : ℕ) → i < V' → tr_next_at trs i ≡ tr_next_at d.memory.trs i
  unfolding tr_next_at tr_room_with
  next_rest i h = tr_same same-trs i 4 (omega (arith, form.trs_fit)) (omega arith)

  pub part_rest : (heads : List ℕ) (u n : ℕ) → n < d.used.states → part_at (stored heads states trs u V') n ≡ part_at d n
  unfolding part_with first_with state_room_with
  part_rest heads u n h =
      let f = state_same same n first_place (omega (arith, form.states_fit)) (omega arith) in
      let l = linked_inside (tr_next_at d.memory.trs) (tr_next_at trs) V' V' (state_field d.memory.states n first_place) rises next_rest (form.state n h).first in
      rw (f, l)

  pub words_rest : (n : ℕ) → n < d.used.states → words_of_part trs (part_at d n) ≡ words_of_part d.memory.trs (part_at d n)
  unfolding part_with tr_room_with
  words_rest n h =
      let f = first_at d.memory.states n in
      let c = length (linked (tr_next_at d.memory.trs) V' f) in
      let b = linked_short (tr_next_at d.memory.trs) V' V' f rises (form.state n h).first in
      let w = room_words tr_size d.memory.trs V' form.trs_fit in
      part_same d.memory.trs trs (tr_size * (f - 1)) (tr_size * c) same-trs.long (omega (arith, b, w.1)) (λ i l. same-trs.words i (omega (arith, b, l, form.trs_fit)))
