-- 02, 2.7: the replaced words of a well-formed machine are well formed, and the facts that marks speak of are those of the replaced machine: so a reader may take what is lent with
-- a list for these words lent without one.
use mathlib.Core.Path.{◌≡◌, refl, ap, ap₂}
use mathlib.Core.Bool.{Bool, true, false, cond, false≢true}
use mathlib.Core.List.{List}
use Prim.Native.Nat.{ℕ, zero, suc, ◌≤◌}
use native.Mathlib.Omega.{arith}
use lib.Dec.{ltb, leb}
use borrow.Author.Tests.{ltb-true, lt-ltb}
use Rattle.lists.specs.Lists.{every, interval}
use Rattle.lists.proofs.Members.{and_left, and_right, every_in, every_of, every_same}
use Rattle.words.specs.Labels.{no_label}
use Rattle.words.specs.Matches.{MatchType, inputs, outputs}
use Rattle.words.specs.Machines.{word_on, state_count, tr_count, start_word, side_mark, acceptor_mark, tr_word, first_ok, next_ok, machine_of, sorted, state_ok, tr_ok, side_mark_ok, acceptor_mark_ok, same_labels, acceptor, marks_ok, size_up_to, well_formed_up_to, well_formed, limit}
use Rattle.words.specs.Ignored.{Ignored, replaced, words_replaced}
use Rattle.words.proofs.ReplacedLaws.{heard_small, replaced_length, same_states, same_count, same_start, same_state, label_after, same_word, not_label, mark_zero, mark_other, acceptor_after_lem, machine_replaced}

-- sortedness of either side of the words is that of the replaced machine
pub sorted_replaced : (on : MatchType) (g : Ignored) (m : List ℕ) (o : MatchType) → sorted o (machine_of (words_replaced on g m)) ≡ sorted o (replaced on g (machine_of m))
sorted_replaced on g m o = ap (sorted o) (machine_replaced on g m)

-- and so is the acceptor property
pub acceptor_replaced : (on : MatchType) (g : Ignored) (m : List ℕ) → acceptor (words_replaced on g m) ≡ same_labels (tr_count m) (replaced on g (machine_of m))
unfolding acceptor
acceptor_replaced on g m = ap₂ same_labels (same_count on g m) (machine_replaced on g m)

-- neither label of a record grows: the inner one is heard, the outer one as lent
label_small : (on : MatchType) (g : Ignored) (m : List ℕ) (o : MatchType) (t : ℕ) → tr_word (words_replaced on g m) t (word_on o) ≤ tr_word m t (word_on o)
label_small inputs g m inputs t = omega (arith, label_after inputs g m t, heard_small g (tr_word m t 0))
label_small inputs g m outputs t = omega (arith, same_word inputs g m t 1 (omega arith) (λ e. omega (arith, e)))
label_small outputs g m inputs t = omega (arith, same_word outputs g m t 0 (omega arith) (λ e. omega (arith, e)))
label_small outputs g m outputs t = omega (arith, label_after outputs g m t, heard_small g (tr_word m t 1))

-- the outer side is sorted just where it was
outputs_kept : (g : Ignored) (m : List ℕ) → sorted outputs (machine_of (words_replaced inputs g m)) ≡ sorted outputs (machine_of m)
unfolding sorted
outputs_kept g m = sorted_replaced inputs g m outputs

inputs_kept : (g : Ignored) (m : List ℕ) → sorted inputs (machine_of (words_replaced outputs g m)) ≡ sorted inputs (machine_of m)
unfolding sorted
inputs_kept g m = sorted_replaced outputs g m inputs

-- the inner mark is 0, the outer one speaks of a side that is as lent
mark_true : (on : MatchType) (g : Ignored) (m : List ℕ) (o : MatchType) → side_mark_ok (side_mark o m) (sorted o (machine_of m)) ≡ true
    → side_mark_ok (side_mark o (words_replaced on g m)) (sorted o (machine_of (words_replaced on g m))) ≡ true
mark_true inputs g m inputs e = rw (mark_zero inputs g m)
mark_true inputs g m outputs e = rw (mark_other inputs g m outputs (λ z. omega (arith, z)), outputs_kept g m) e
mark_true outputs g m inputs e = rw (mark_other outputs g m inputs (λ z. omega (arith, z)), inputs_kept g m) e
mark_true outputs g m outputs e = rw (mark_zero outputs g m)

-- an acceptor mark that is kept only where it is true is true
kept_true : (mark : ℕ) (before after : Bool) → acceptor_mark_ok mark before ≡ true → acceptor_mark_ok (cond after mark 0) after ≡ true
kept_true mark before false e = refl
kept_true zero before true e = refl
kept_true (suc zero) before true e = refl
kept_true (suc (suc n)) before true e = absurd (false≢true e)

module _ (on : MatchType) (g : Ignored) (m : List ℕ) where
  abbrev W : List ℕ
  W = words_replaced on g m

  same_size : (most : ℕ) → size_up_to most W ≡ size_up_to most m
  unfolding size_up_to
  same_size most = rw (same_states on g m, same_count on g m, replaced_length on g m)

  state_same : (s : ℕ) → state_ok W s ≡ state_ok m s
  unfolding state_ok first_ok
  state_same s = rw (same_state on g m s 0 (omega arith), same_state on g m s 1 (omega arith), same_state on g m s 2 (omega arith), same_count on g m)

  next_same : (t : ℕ) → next_ok W t ≡ next_ok m t
  unfolding next_ok
  next_same t = rw (same_word on g m t 4 (omega arith) (not_label on g m 4 (omega arith)), same_count on g m)

  tr_true : (t : ℕ) → tr_ok m t ≡ true → tr_ok W t ≡ true
  unfolding tr_ok
  tr_true t e =
      let a = ltb-true (tr_word m t 0) no_label (and_left (ltb (tr_word m t 0) no_label) _ e) in
      let r = and_right (ltb (tr_word m t 0) no_label) _ e in
      let b = ltb-true (tr_word m t 1) no_label (and_left (ltb (tr_word m t 1) no_label) _ r) in
      rw (
        lt-ltb (tr_word W t 0) no_label (omega (arith, a, label_small on g m inputs t)),
        lt-ltb (tr_word W t 1) no_label (omega (arith, b, label_small on g m outputs t)),
        same_word on g m t 3 (omega arith) (not_label on g m 3 (omega arith)),
        same_states on g m,
        next_same t,
      )
      (and_right (ltb (tr_word m t 1) no_label) _ r)

  marks_true : marks_ok m ≡ true → marks_ok W ≡ true
  unfolding marks_ok
  marks_true e =
      let a = and_left (side_mark_ok (side_mark inputs m) (sorted inputs (machine_of m))) _ e in
      let r = and_right (side_mark_ok (side_mark inputs m) (sorted inputs (machine_of m))) _ e in
      let b = and_left (side_mark_ok (side_mark outputs m) (sorted outputs (machine_of m))) _ r in
      let c = and_right (side_mark_ok (side_mark outputs m) (sorted outputs (machine_of m))) _ r in
      rw (mark_true on g m inputs a, mark_true on g m outputs b, acceptor_after_lem on g m, acceptor_replaced on g m)
      (kept_true (acceptor_mark m) (acceptor m) (same_labels (tr_count m) (replaced on g (machine_of m))) c)

-- "Malformed is judged on the machines as lent", and replacement makes none malformed
pub replaced_formed_upto : (most : ℕ) (on : MatchType) (g : Ignored) (m : List ℕ) → well_formed_up_to most m ≡ true → well_formed_up_to most (words_replaced on g m) ≡ true
unfolding well_formed_up_to
replaced_formed_upto most on g m e =
    let size = and_left (size_up_to most m) _ e in
    let e1 = and_right (size_up_to most m) _ e in
    let e2 = and_right (leb (start_word m) (state_count m)) _ e1 in
    let e3 = and_right (every (state_ok m) (interval 0 (state_count m))) _ e2 in
    let trs = and_left (every (tr_ok m) (interval 1 (tr_count m))) _ e3 in
    let W = words_replaced on g m in
    rw (
      same_size on g m most,
      size,
      same_start on g m,
      same_states on g m,
      and_left (leb (start_word m) (state_count m)) _ e1,
      every_same (state_ok W) (state_ok m) (interval 0 (state_count m)) (λ s i. state_same on g m s),
      and_left (every (state_ok m) (interval 0 (state_count m))) _ e2,
      same_count on g m,
      every_of (tr_ok W) (interval 1 (tr_count m)) (λ t i. tr_true on g m t (every_in (tr_ok m) trs i)),
    )
    (marks_true on g m (and_right (every (tr_ok m) (interval 1 (tr_count m))) _ e3))

pub replaced_formed : (on : MatchType) (g : Ignored) (m : List ℕ) → well_formed m ≡ true → well_formed (words_replaced on g m) ≡ true
replaced_formed = replaced_formed_upto limit
