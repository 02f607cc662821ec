-- What the words of a machine given by its rows hold: header, states, transitions, lists. They are well formed.
use mathlib.Core.Path.{◌≡◌, refl, sym, ◌∙◌, ap}
use mathlib.Core.Bool.{Bool, true, false, cond, ◌&&◌, ◌||◌, and-eq-true_iff}
use mathlib.Core.List.{List, [], ◌∷◌, ◌++◌, Memᴰ as In}
use Rattle.std.specs.Prelude.{Option, None, Some}
use Rattle.std.proofs.lemmas.Option.{none-some, same_Some}
use Prim.Native.Nat.{ℕ, zero, suc, ◌+◌, ◌-◌, ◌*◌, ◌<◌, ◌≤◌}
use native.Mathlib.Numerals.{add-one}
use native.Mathlib.Omega.{arith}
use lib.Dec.{eqb, ltb, leb}
use lib.ListN.{length, get_or, take, length-append, get_or-append}
use lib.Seq.{get_or-append-add}
use borrow.Author.Tests.{ltb-true, ltb-false, lt-ltb, le-ltb, le-leb}
use Rattle.lists.specs.Lists.{At, every, interval}
use Rattle.lists.proofs.Members.{every_of, of_interval, or_right}
use Rattle.lists.proofs.Places.{at_in, at_length, at_place}
use Rattle.words.specs.Labels.{no_label}
use Rattle.words.specs.Matches.{Tr, MatchType, inputs, outputs}
use Rattle.words.specs.Sides.{non_empty}
use Rattle.words.specs.Machines.{limit, header_words, state_words, tr_words, state_count, tr_count, start_word, side_mark, acceptor_mark, state_word, tr_word, first_ok, next_ok, first_of, next_of, list_from, list_of, final_ok, state_ok, tr_ok, marks_ok, size_ok, well_formed, well_formed_up_to}
use Rattle.words.proofs.FormLaws.{tr_place, state_at_lem, size_asks}
use Rattle.words.proofs.ListLaws.{list_end_lem, list_turn}
use Rattle.machine_words.specs.MachineWords.{Row, words_of_tr, final_words, states_words, trs_words, trs_in, before, machine_words, row_words}
use Rattle.machine_words.proofs.Blocks.{link_of, states_length, states_word, trs_length, trs_word}

-- the transitions of the states before s are those of the first s rows
pub before_taken : (rows : List Row) (s : ℕ) → before rows s ≡ trs_in (take s rows)
unfolding before trs_in
before_taken [] zero = refl
before_taken [] (suc s) = refl
before_taken (r ∷ rs) zero = refl
before_taken (r ∷ rs) (suc s) = ap (λ (n : ℕ). length r.list + n) (before_taken rs s)

-- the records before a state and its own are no more than all
pub before_within : (rows : List Row) (s : ℕ) {row : Row} → At rows s row → before rows s + length row.list ≤ trs_in rows
unfolding before trs_in
before_within [] s h = absurd (none-some _ h)
before_within (r ∷ rs) zero {row} h = let e : length r.list ≡ length row.list = ap (λ (q : Row). length q.list) (same_Some _ _ h) in omega (arith, e)
before_within (r ∷ rs) (suc s) h = let a = before_within rs s h in omega (arith, a)

-- which transition of which state a record is
pub record Placed (rows : List Row) (i : ℕ) : Type 0 where
  pub s : ℕ
  pub row : Row
  pub at : At rows s row
  pub j : ℕ
  pub t : Tr
  pub in_row : At row.list j t
  pub is : i ≡ before rows s + j

pub placed : (rows : List Row) (i : ℕ) → i < trs_in rows → Placed rows i
unfolding before trs_in
placed [] i h = absurd (omega arith)
placed (r ∷ rs) i h = go (ltb i (length r.list)) refl (λ k. placed rs (i - length r.list) k)
  where
    go : (b : Bool) → ltb i (length r.list) ≡ b → (i - length r.list < trs_in rs → Placed rs (i - length r.list)) → Placed (r ∷ rs) i
    go true e rec = let p = at_place r.list i (ltb-true _ _ e) in record { s = 0; row = r; at = refl; j = i; t = p.0; in_row = p.1; is = omega arith }
    go false e rec =
        let l = ltb-false i (length r.list) e in
        let p = rec (omega (arith, h, l)) in
        record { s = suc p.s; row = p.row; at = p.at; j = p.j; t = p.t; in_row = p.in_row; is = omega (arith, p.is, l) }

module _ (start : ℕ) (rows : List Row) where
  -- "the length is exactly 6 + 3S + 5T"
  pub words_length : length (machine_words start rows) ≡ header_words + state_words * length rows + tr_words * trs_in rows
  unfolding machine_words
  words_length = omega (arith, length-append (states_words 0 rows) (trs_words 0 rows), states_length 0 rows, trs_length 0 rows)

  -- the header
  pub words_states : state_count (machine_words start rows) ≡ length rows
  unfolding machine_words state_count
  words_states = refl

  pub words_trs : tr_count (machine_words start rows) ≡ trs_in rows
  unfolding machine_words tr_count
  words_trs = refl

  pub words_start : start_word (machine_words start rows) ≡ start
  unfolding machine_words start_word
  words_start = refl

  pub words_mark : (on : MatchType) → side_mark on (machine_words start rows) ≡ 0
  unfolding machine_words side_mark
  words_mark inputs = refl
  words_mark outputs = refl

  pub words_acceptor : acceptor_mark (machine_words start rows) ≡ 0
  unfolding machine_words acceptor_mark
  words_acceptor = refl

  -- a word past the header
  past : (i : ℕ) → get_or (machine_words start rows) (6 + i) 0 ≡ get_or (states_words 0 rows ++ trs_words 0 rows) i 0
  unfolding machine_words
  past i = get_or-append-add (length rows ∷ trs_in rows ∷ start ∷ 0 ∷ 0 ∷ 0 ∷ []) (states_words 0 rows ++ trs_words 0 rows) i 0

  -- the words of a state
  words_state : (s k : ℕ) {row : Row} → At rows s row → k < 3 → state_word (machine_words start rows) s k ≡ get_or (row_words (before rows s) row) k 0
  words_state s k {row} h l =
      let b = at_length rows s h in
      state_at_lem (machine_words start rows) s k (omega (arith, b, words_states))
      ∙ ap (λ (i : ℕ). get_or (machine_words start rows) i 0) (omega arith)
      ∙ past (3 * s + k)
      ∙ get_or-append (states_words 0 rows) (trs_words 0 rows) 0 (3 * s + k) (omega (arith, states_length 0 rows, b, l))
      ∙ states_word 0 rows s k h l
      ∙ ap (λ (i : ℕ). get_or (row_words i row) k 0) (omega arith)

  pub words_first : (s : ℕ) {row : Row} → At rows s row → state_word (machine_words start rows) s 0 ≡ cond (non_empty row.list) (suc (before rows s)) 0
  words_first s h = words_state s 0 h (omega arith)

  pub words_final : (s : ℕ) {row : Row} → At rows s row → state_word (machine_words start rows) s 1 ≡ get_or (final_words row.final) 0 0
  words_final s h = words_state s 1 h (omega arith)

  pub words_final_weight : (s : ℕ) {row : Row} → At rows s row → state_word (machine_words start rows) s 2 ≡ get_or (final_words row.final) 1 0
  words_final_weight s h = words_state s 2 h (omega arith)

  -- the words of a transition
  words_tr : (s j k : ℕ) {row : Row} {t : Tr} → At rows s row → At row.list j t → k < 5
      → tr_word (machine_words start rows) (before rows s + j + 1) k ≡ get_or (words_of_tr t (link_of (before rows s) j (length row.list))) k 0
  words_tr s j k {row} {t} h i l =
      ap (λ (n : ℕ). tr_word (machine_words start rows) n k) (add-one (before rows s + j))
      ∙ tr_place (machine_words start rows) (before rows s + j) k
      ∙ ap (λ (n : ℕ). get_or (machine_words start rows) n 0) (omega (arith, words_states, states_length 0 rows))
      ∙ past (length (states_words 0 rows) + (5 * (before rows s + j) + k))
      ∙ get_or-append-add (states_words 0 rows) (trs_words 0 rows) (5 * (before rows s + j) + k) 0
      ∙ trs_word 0 rows s j k h i l
      ∙ ap (λ (n : ℕ). get_or (words_of_tr t (link_of n j (length row.list))) k 0) (omega arith)

  pub words_input : (s j : ℕ) {row : Row} {t : Tr} → At rows s row → At row.list j t → tr_word (machine_words start rows) (before rows s + j + 1) 0 ≡ t.input
  words_input s j h i = words_tr s j 0 h i (omega arith)

  pub words_output : (s j : ℕ) {row : Row} {t : Tr} → At rows s row → At row.list j t → tr_word (machine_words start rows) (before rows s + j + 1) 1 ≡ t.output
  words_output s j h i = words_tr s j 1 h i (omega arith)

  pub words_weight : (s j : ℕ) {row : Row} {t : Tr} → At rows s row → At row.list j t → tr_word (machine_words start rows) (before rows s + j + 1) 2 ≡ t.weight
  words_weight s j h i = words_tr s j 2 h i (omega arith)

  pub words_target : (s j : ℕ) {row : Row} {t : Tr} → At rows s row → At row.list j t → tr_word (machine_words start rows) (before rows s + j + 1) 3 ≡ t.target
  words_target s j h i = words_tr s j 3 h i (omega arith)

  pub words_next : (s j : ℕ) {row : Row} {t : Tr} → At rows s row → At row.list j t
      → tr_word (machine_words start rows) (before rows s + j + 1) 4 ≡ cond (ltb (j + 1) (length row.list)) (before rows s + j + 2) 0
  words_next s j h i = words_tr s j 4 h i (omega arith)

  -- a first and a next keep to the rules, so that reading them guarded gives the word
  words_first_ok : (s : ℕ) {row : Row} → At rows s row → first_ok (machine_words start rows) s ≡ true
  unfolding first_ok
  words_first_ok s {row} h = rw (words_first s h, words_trs) (le-leb _ (trs_in rows) (go row.list (before_within rows s h)))
    where
      go : (l : List Tr) → before rows s + length l ≤ trs_in rows → cond (non_empty l) (suc (before rows s)) 0 ≤ trs_in rows
      go [] b = omega arith
      go (t ∷ ts) b = omega (arith, b)

  words_next_ok : (s j : ℕ) {row : Row} {t : Tr} → At rows s row → At row.list j t → next_ok (machine_words start rows) (before rows s + j + 1) ≡ true
  unfolding next_ok
  words_next_ok s j {row} h i = rw (words_next s j h i, words_trs) (go (ltb (j + 1) (length row.list)) refl)
    where
      go : (b : Bool) → ltb (j + 1) (length row.list) ≡ b
          → (eqb (cond b (before rows s + j + 2) 0) 0 || (ltb (before rows s + j + 1) (cond b (before rows s + j + 2) 0) && leb (cond b (before rows s + j + 2) 0) (trs_in rows))) ≡ true
      go false e = refl
      go true e =
          or_right (eqb (before rows s + j + 2) 0) _
          ((and-eq-true_iff (ltb (before rows s + j + 1) (before rows s + j + 2)) (leb (before rows s + j + 2) (trs_in rows))).1
          (lt-ltb (before rows s + j + 1) (before rows s + j + 2) (omega arith), le-leb (before rows s + j + 2) (trs_in rows) (omega (arith, before_within rows s h, ltb-true (j + 1) (length row.list) e))))

  words_first_of : (s : ℕ) {row : Row} → At rows s row → first_of (machine_words start rows) s ≡ cond (non_empty row.list) (suc (before rows s)) 0
  unfolding first_of
  words_first_of s h = rw (words_first_ok s h) (words_first s h)

  words_next_of : (s j : ℕ) {row : Row} {t : Tr} → At rows s row → At row.list j t
      → next_of (machine_words start rows) (before rows s + j + 1) ≡ cond (ltb (j + 1) (length row.list)) (before rows s + j + 2) 0
  unfolding next_of
  words_next_of s j h i = rw (words_next_ok s j h i) (words_next s j h i)

  -- the list of a state from its transition j on, by its length d
  list_from_lem : (s : ℕ) {row : Row} → At rows s row → (d j : ℕ) → j + d ≡ length row.list
      → list_from (machine_words start rows) (cond (ltb j (length row.list)) (before rows s + j + 1) 0) ≡ interval (before rows s + j + 1) d
  unfolding interval
  list_from_lem s {row} h zero j e = rw (le-ltb j (length row.list) (omega (arith, e))) (list_end_lem (machine_words start rows) 0 refl)
  list_from_lem s {row} h (suc d) j e =
      let l : j < length row.list = omega (arith, e) in
      let p = at_place row.list j l in
      let n : before rows s + (j + 1) + 1 ≡ before rows s + j + 2 = omega arith in
      let n' : before rows s + (j + 1) + 1 ≡ suc (before rows s + j + 1) = omega arith in
      rw (lt-ltb j (length row.list) l)
      (list_turn (machine_words start rows) (before rows s + j + 1) (λ z. omega arith) (omega (arith, words_trs, before_within rows s h, l))
      ∙ ap (λ (k : ℕ). (before rows s + j + 1) ∷ list_from (machine_words start rows) k) (words_next_of s j h p.1)
      ∙ ap (λ (k : ℕ). (before rows s + j + 1) ∷ list_from (machine_words start rows) (cond (ltb (j + 1) (length row.list)) k 0)) (sym n)
      ∙ ap (λ (ts : List ℕ). (before rows s + j + 1) ∷ ts) (list_from_lem s h d (j + 1) (omega (arith, e)))
      ∙ ap (λ (k : ℕ). (before rows s + j + 1) ∷ interval k d) n')

  -- the list of a state: its records one after another
  pub words_list : (s : ℕ) {row : Row} → At rows s row → list_of (machine_words start rows) s ≡ interval (before rows s + 1) (length row.list)
  unfolding list_of
  words_list s {row} h =
      let n : before rows s + 0 + 1 ≡ before rows s + 1 = omega arith in
      let n' : suc (before rows s) ≡ before rows s + 0 + 1 = omega arith in
      ap (λ (k : ℕ). list_from (machine_words start rows) k) (words_first_of s h)
      ∙ ap (λ (b : Bool). list_from (machine_words start rows) (cond b (suc (before rows s)) 0)) (more row.list)
      ∙ ap (λ (k : ℕ). list_from (machine_words start rows) (cond (ltb 0 (length row.list)) k 0)) n'
      ∙ list_from_lem s h (length row.list) 0 (omega arith)
      ∙ ap (λ (k : ℕ). interval k (length row.list)) n
    where
      more : (l : List Tr) → non_empty l ≡ ltb 0 (length l)
      more [] = refl
      more (t ∷ ts) = sym (lt-ltb 0 (suc (length ts)) (omega arith))

  -- What a row must keep to: no label MAX, targets below the state count.
  pub record RowsFormed : Type 0 where
    pub states_within : length rows ≤ limit
    pub trs_within : trs_in rows ≤ limit
    pub start_within : start ≤ length rows
    pub input_below : (r : Row) (t : Tr) → In r rows → In t r.list → t.input < no_label
    pub output_below : (r : Row) (t : Tr) → In r rows → In t r.list → t.output < no_label
    pub target_below : (r : Row) (t : Tr) → In r rows → In t r.list → t.target < length rows

  words_state_ok : (s : ℕ) {row : Row} → At rows s row → state_ok (machine_words start rows) s ≡ true
  unfolding state_ok
  words_state_ok s {row} h = rw (words_first_ok s h, words_final s h, words_final_weight s h) (go row.final)
    where
      go : (o : Option ℕ) → final_ok (get_or (final_words o) 0 0) (get_or (final_words o) 1 0) ≡ true
      go None = refl
      go (Some w) = refl

  words_tr_ok : RowsFormed → (s j : ℕ) {row : Row} {t : Tr} → At rows s row → At row.list j t → tr_ok (machine_words start rows) (before rows s + j + 1) ≡ true
  unfolding tr_ok
  words_tr_ok f s j {row} {t} h i =
      let r = at_in rows s h in
      let u = at_in row.list j i in
      rw (
        words_input s j h i,
        words_output s j h i,
        words_target s j h i,
        words_states,
        words_next_ok s j h i,
        lt-ltb t.input no_label (f.input_below row t r u),
        lt-ltb t.output no_label (f.output_below row t r u),
        lt-ltb t.target (length rows) (f.target_below row t r u),
      )

  any_tr : RowsFormed → (t : ℕ) → (1 ≤ t) × (t < 1 + tr_count (machine_words start rows)) → tr_ok (machine_words start rows) t ≡ true
  any_tr f t b =
      let p = placed rows (t - 1) (omega (arith, b.0, b.1, words_trs)) in
      let e : t ≡ before rows p.s + p.j + 1 = omega (arith, b.0, p.is) in
      ap (tr_ok (machine_words start rows)) e ∙ words_tr_ok f p.s p.j p.at p.in_row

  words_marks : marks_ok (machine_words start rows) ≡ true
  unfolding marks_ok
  words_marks = rw (words_mark inputs, words_mark outputs, words_acceptor)

  -- the words are a well-formed machine
  pub words_formed : RowsFormed → well_formed (machine_words start rows) ≡ true
  unfolding well_formed_up_to
  words_formed f =
      (and-eq-true_iff (size_ok (machine_words start rows)) _).1 (
        size_asks (machine_words start rows) (rw words_states f.states_within) (rw words_trs f.trs_within) (rw (words_states, words_trs) words_length),
        (and-eq-true_iff (leb (start_word (machine_words start rows)) (state_count (machine_words start rows))) _).1 (
          rw (words_start, words_states) (le-leb start (length rows) f.start_within),
          (and-eq-true_iff (every (state_ok (machine_words start rows)) (interval 0 (state_count (machine_words start rows)))) _).1 (
            every_of _ _ (λ s i. let p = at_place rows s (omega (arith, (of_interval 0 (state_count (machine_words start rows)) i).1, words_states)) in words_state_ok s p.1),
            (and-eq-true_iff (every (tr_ok (machine_words start rows)) (interval 1 (tr_count (machine_words start rows)))) _).1 (
              every_of _ _ (λ t i. any_tr f t (of_interval 1 (tr_count (machine_words start rows)) i)),
              words_marks,
            ),
          ),
        ),
      )
