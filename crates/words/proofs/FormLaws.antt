-- What a well-formed machine says of its size, states, records and marks.
use mathlib.Core.Path.{◌≡◌, refl, ap, ◌∙◌}
use mathlib.Core.Bool.{true}
use mathlib.Core.List.{List}
use Prim.Native.Nat.{ℕ, zero, suc, ◌+◌, ◌-◌, ◌*◌, ◌<◌, ◌≤◌}
use native.Mathlib.Omega.{arith}
use lib.Dec.{ltb, leb}
use lib.ListN.{length, get_or}
use borrow.Author.Tests.{ltb-true, leb-true, eqb-true, le-leb, lt-ltb, eq-eqb}
use Rattle.lists.specs.Lists.{every, interval}
use Rattle.lists.proofs.Members.{and_left, and_right, every_in, in_interval}
use Rattle.words.specs.Labels.{MAX}
use Rattle.words.specs.Matches.{MatchType, inputs, outputs}
use Rattle.words.specs.Machines.{limit, header_words, state_words, tr_words, state_count, tr_count, start_word, side_mark, acceptor_mark, state_word, tr_word, first_ok, first_of, next_of, machine_of, sorted, final_ok, state_ok, tr_ok, side_mark_ok, acceptor_mark_ok, acceptor, marks_ok, size_ok, well_formed, size_up_to, well_formed_up_to}

-- the place of a record: "the length is exactly 6 + 3S + 5T", and records count from 1
pub tr_place : (m : List ℕ) (t k : ℕ) → tr_word m (suc t) k ≡ get_or m (6 + 3 * state_count m + 5 * t + k) 0
unfolding tr_word
tr_place m t k = refl

-- the same with one number for all records: where record 0 would begin
pub tr_at_lem : (m : List ℕ) (t k : ℕ) → 0 < t → tr_word m t k ≡ get_or m (header_words - tr_words + state_words * state_count m + tr_words * t + k) 0
tr_at_lem m zero k h = absurd (omega (arith, h))
tr_at_lem m (suc t) k h = tr_place m t k ∙ ap (λ (i : ℕ). get_or m i 0) (omega arith)

-- the place of a state's word
pub state_at_lem : (m : List ℕ) (s k : ℕ) → s < state_count m → state_word m s k ≡ get_or m (header_words + state_words * s + k) 0
unfolding state_word
state_at_lem m s k h = rw (lt-ltb _ _ h)

pub record StateForm (m : List ℕ) (s : ℕ) : Type 0 where
  -- the guarded reading is the word
  pub first : first_of m s ≡ state_word m s 0
  pub final : final_ok (state_word m s 1) (state_word m s 2) ≡ true

pub record TrForm (m : List ℕ) (t : ℕ) : Type 0 where
  pub input : tr_word m t 0 < MAX
  pub output : tr_word m t 1 < MAX
  pub target : tr_word m t 3 < state_count m
  -- the guarded reading is the word
  pub next : next_of m t ≡ tr_word m t 4

pub record Form (m : List ℕ) : Type 0 where
  -- S and T are at most 16777215, in digits: no machine that a closed case can hold would show a wrong `limit`
  pub states : state_count m ≤ 16777215
  pub trs : tr_count m ≤ 16777215
  pub words : length m ≡ 6 + 3 * state_count m + 5 * tr_count m
  pub start : start_word m ≤ state_count m
  pub state : (s : ℕ) → s < state_count m → StateForm m s
  pub tr : (t : ℕ) → 0 < t → t ≤ tr_count m → TrForm m t
  pub mark : (on : MatchType) → side_mark_ok (side_mark on m) (sorted on (machine_of m)) ≡ true
  pub accepts : acceptor_mark_ok (acceptor_mark m) (acceptor m) ≡ true

state_form : (m : List ℕ) (s : ℕ) → state_ok m s ≡ true → StateForm m s
unfolding state_ok first_of
state_form m s e = record { first = rw (and_left (first_ok m s) _ e); final = and_right (first_ok m s) _ e }

tr_form : (m : List ℕ) (t : ℕ) → tr_ok m t ≡ true → TrForm m t
unfolding tr_ok next_of
tr_form m t e =
    let r = and_right (ltb (tr_word m t 0) MAX) _ e in
    let q = and_right (ltb (tr_word m t 1) MAX) _ r in
    record {
      input = ltb-true _ _ (and_left (ltb (tr_word m t 0) MAX) _ e);
      output = ltb-true _ _ (and_left (ltb (tr_word m t 1) MAX) _ r);
      target = ltb-true _ _ (and_left (ltb (tr_word m t 3) (state_count m)) _ q);
      next = rw (and_right (ltb (tr_word m t 3) (state_count m)) _ q);
    }

mark_form : (m : List ℕ) → marks_ok m ≡ true → (on : MatchType) → side_mark_ok (side_mark on m) (sorted on (machine_of m)) ≡ true
unfolding marks_ok
mark_form m e inputs = and_left (side_mark_ok (side_mark inputs m) (sorted inputs (machine_of m))) _ e
mark_form m e outputs =
    and_left (side_mark_ok (side_mark outputs m) (sorted outputs (machine_of m))) _ (and_right (side_mark_ok (side_mark inputs m) (sorted inputs (machine_of m))) _ e)

accepts_form : (m : List ℕ) → marks_ok m ≡ true → acceptor_mark_ok (acceptor_mark m) (acceptor m) ≡ true
unfolding marks_ok
accepts_form m e =
    and_right (side_mark_ok (side_mark outputs m) (sorted outputs (machine_of m))) _ (and_right (side_mark_ok (side_mark inputs m) (sorted inputs (machine_of m))) _ e)

pub form : (m : List ℕ) → well_formed m ≡ true → Form m
unfolding well_formed_up_to size_up_to
form m e =
    let size = and_left (size_ok m) _ e in
    let e1 = and_right (size_ok m) _ e in
    let e2 = and_right (leb (start_word m) (state_count m)) _ e1 in
    let e3 = and_right (every (state_ok m) (interval 0 (state_count m))) _ e2 in
    let marks = and_right (every (tr_ok m) (interval 1 (tr_count m))) _ e3 in
    let sizes = and_right (leb (state_count m) limit) _ size in
    record {
      states = leb-true _ _ (and_left (leb (state_count m) limit) _ size);
      trs = leb-true _ _ (and_left (leb (tr_count m) limit) _ sizes);
      words = eqb-true _ _ (and_right (leb (tr_count m) limit) _ sizes);
      start = leb-true _ _ (and_left (leb (start_word m) (state_count m)) _ e1);
      state = λ s h. state_form m s (every_in (state_ok m) (and_left (every (state_ok m) (interval 0 (state_count m))) _ e2) (in_interval 0 (state_count m) s (omega arith) (omega arith)));
      tr = λ t h l. tr_form m t (every_in (tr_ok m) (and_left (every (tr_ok m) (interval 1 (tr_count m))) _ e3) (in_interval 1 (tr_count m) t (omega arith) (omega arith)));
      mark = mark_form m marks;
      accepts = accepts_form m marks;
    }

-- the size asks no more than `Form` says of it: with a smaller `limit` this would fail
pub size_asks : (m : List ℕ) → state_count m ≤ 16777215 → tr_count m ≤ 16777215 → length m ≡ 6 + 3 * state_count m + 5 * tr_count m → size_ok m ≡ true
unfolding size_up_to
size_asks m states trs words = rw (le-leb (state_count m) 16777215 states, le-leb (tr_count m) 16777215 trs) (eq-eqb _ _ words)
