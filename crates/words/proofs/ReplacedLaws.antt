-- 02, 2.7: the words with labels replaced hold the replaced machine; so what is lent with a list is answered as the replaced words are without one.
use mathlib.Core.Path.{◌≡◌, refl, sym, ◌∙◌, ap}
use mathlib.Core.Bool.{Bool, true, false, cond}
use mathlib.Core.List.{List, [], ◌∷◌}
use mathlib.Core.Logic.{◌≢◌}
use Rattle.std.specs.Prelude.{Option}
use Prim.Native.Nat.{ℕ, zero, suc, ◌+◌, ◌-◌, ◌*◌, ◌<◌, ◌≤◌}
use native.Mathlib.Omega.{arith}
use native.Mathlib.Decide.{dec_lt}
use lib.Dec.{eqb, ltb}
use lib.ListN.{length, get_or, set, length-set, get_or-eq_default}
use lib.Seq.{get_or-set_same, get_or-set_other}
use borrow.Author.Tests.{ltb-true}
use Rattle.papers.specs.Machine.{Machine}
use Rattle.words.specs.Matches.{MatchType, inputs, outputs, label_on, Tr, tr_of}
use Rattle.words.specs.Machines.{less_one, header_words, state_words, tr_words, mark_word, acceptor_word, word_on, state_count, tr_count, start_word, side_mark, acceptor_mark, state_word, tr_word, first_ok, next_ok, first_of, next_of, list_by, list_from, list_of, machine_of, same_labels, acceptor}
use Rattle.words.specs.Sigmas.{has}
use Rattle.words.specs.Ignored.{Ignored, is_ignored, heard, replaced, otherwise, mark_read, acceptor_after, acceptor_read, in_records, words_replaced, words_read}
use Rattle.words.specs.Settings.{operand_by, operand_of, operand_under}

-- a label is heard as itself or as 0
cond_small : (b : Bool) (x : ℕ) → cond b 0 x ≤ x
cond_small true x = omega arith
cond_small false x = omega arith

pub heard_small : (g : Ignored) (x : ℕ) → heard g x ≤ x
unfolding heard
heard_small g x = cond_small (is_ignored g x) x

pub heard_zero : (g : Ignored) → heard g 0 ≡ 0
heard_zero g = omega (arith, heard_small g 0)

-- the words that `in_records` changes, and the others
module _ (f : ℕ → ℕ) (z : f 0 ≡ 0) where
  pub length_records : (k : ℕ) (l : List ℕ) → length (in_records f k l) ≡ length l
  unfolding in_records
  length_records k [] = refl
  length_records zero (x ∷ xs) = ap suc (length_records 4 xs)
  length_records (suc k) (x ∷ xs) = ap suc (length_records k xs)

  -- before the first one, nothing
  pub records_before_lem : (k : ℕ) (l : List ℕ) (i : ℕ) → i < k → get_or (in_records f k l) i 0 ≡ get_or l i 0
  unfolding in_records
  records_before_lem k [] i h = refl
  records_before_lem zero (x ∷ xs) i h = absurd (omega (arith, h))
  records_before_lem (suc k) (x ∷ xs) zero h = refl
  records_before_lem (suc k) (x ∷ xs) (suc i) h = records_before_lem k xs i (omega (arith, h))

  -- each a record's length further is changed
  pub records_changed : (k : ℕ) (l : List ℕ) (i t : ℕ) → i ≡ k + tr_words * t → get_or (in_records f k l) i 0 ≡ f (get_or l i 0)
  unfolding in_records
  records_changed k [] i t e = sym z
  records_changed zero (x ∷ xs) zero t e = refl
  records_changed zero (x ∷ xs) (suc i) zero e = absurd (omega (arith, e))
  records_changed zero (x ∷ xs) (suc i) (suc t) e = records_changed 4 xs i t (omega (arith, e))
  records_changed (suc k) (x ∷ xs) zero t e = absurd (omega (arith, e))
  records_changed (suc k) (x ∷ xs) (suc i) t e = records_changed k xs i t (omega (arith, e))

  -- the words between them are not
  pub records_kept : (k : ℕ) (l : List ℕ) (i t r : ℕ) → 0 < r → r < tr_words → i ≡ k + tr_words * t + r → get_or (in_records f k l) i 0 ≡ get_or l i 0
  unfolding in_records
  records_kept k [] i t r a b e = refl
  records_kept zero (x ∷ xs) zero t r a b e = absurd (omega (arith, e, a))
  records_kept zero (x ∷ xs) (suc i) zero r a b e = records_before_lem 4 xs i (omega (arith, e, b))
  records_kept zero (x ∷ xs) (suc i) (suc t) r a b e = records_kept 4 xs i t r a b (omega (arith, e))
  records_kept (suc k) (x ∷ xs) zero t r a b e = absurd (omega (arith, e))
  records_kept (suc k) (x ∷ xs) (suc i) t r a b e = records_kept k xs i t r a b (omega (arith, e))

-- a word that is written, or lies past the end, where both are 0
set_word : (l : List ℕ) (i x : ℕ) → (length l ≤ i → x ≡ 0) → get_or (set l i x) i 0 ≡ x
set_word l i x h = go (dec_lt i (length l))
  where
    go : Dec (i < length l) → get_or (set l i x) i 0 ≡ x
    go (yes a) = get_or-set_same l i x 0 a
    go (no a) = get_or-eq_default (set l i x) 0 (simp length-set (omega (arith, a))) ∙ sym (h (omega (arith, a)))

cond_same : (b : Bool) (x : ℕ) → x ≡ 0 → cond b x 0 ≡ 0
cond_same true x e = e
cond_same false x e = refl

-- the words of a machine with its labels replaced
module _ (on : MatchType) (g : Ignored) (m : List ℕ) where
  -- the first place of a label
  abbrev from : ℕ
  from = header_words + state_words * state_count m + word_on on

  -- the acceptor mark as it is read
  abbrev kept : ℕ
  kept = acceptor_after on (heard g) m

  abbrev labelled : List ℕ
  labelled = in_records (heard g) from m

  abbrev W : List ℕ
  W = words_replaced on g m

  pub replaced_length : length W ≡ length m
  unfolding words_replaced
  replaced_length = simp length-set (length_records (heard g) (heard_zero g) from m)

  -- but for the two marks, only labels change
  other_word : (i : ℕ) → i ≢ mark_word on → i ≢ acceptor_word → get_or W i 0 ≡ get_or labelled i 0
  unfolding words_replaced
  other_word i a b = get_or-set_other (set labelled (mark_word on) 0) acceptor_word i kept 0 b ∙ get_or-set_other labelled (mark_word on) i 0 0 a

  before_labels : (i : ℕ) → i < from → i ≢ mark_word on → i ≢ acceptor_word → get_or W i 0 ≡ get_or m i 0
  before_labels i h a b = other_word i a b ∙ records_before_lem (heard g) (heard_zero g) from m i h

  mark_place : (o : MatchType) → (3 ≤ mark_word o) × (mark_word o ≤ 4)
  mark_place inputs = (omega arith, omega arith)
  mark_place outputs = (omega arith, omega arith)

  label_place_lem : (o : MatchType) → word_on o ≤ 1
  label_place_lem inputs = omega arith
  label_place_lem outputs = omega arith

  header : (i : ℕ) → i < 3 → get_or W i 0 ≡ get_or m i 0
  header i h =
      let p = mark_place on in
      before_labels i (omega (arith, h)) (λ e. omega (arith, p.0, h, e)) (λ e. omega (arith, h, e))

  pub same_states : state_count W ≡ state_count m
  unfolding state_count
  same_states = header 0 (omega arith)

  pub same_count : tr_count W ≡ tr_count m
  unfolding tr_count
  same_count = header 1 (omega arith)

  pub same_start : start_word W ≡ start_word m
  unfolding start_word
  same_start = header 2 (omega arith)

  -- "side marks on the replaced sides read as 0"
  pub mark_zero : side_mark on W ≡ 0
  unfolding side_mark words_replaced
  mark_zero =
      let p = mark_place on in
      get_or-set_other (set labelled (mark_word on) 0) acceptor_word (mark_word on) kept 0 (λ e. omega (arith, p.1, e)) ∙ set_word labelled (mark_word on) 0 (λ h. refl)

  -- the other side's mark is as lent
  pub mark_other : (o : MatchType) → mark_word o ≢ mark_word on → side_mark o W ≡ side_mark o m
  unfolding side_mark
  mark_other o h = let p = mark_place o in before_labels (mark_word o) (omega (arith, p.1)) h (λ e. omega (arith, p.1, e))

  pub acceptor_after_lem : acceptor_mark W ≡ kept
  unfolding acceptor_mark words_replaced
  acceptor_after_lem = set_word (set labelled (mark_word on) 0) acceptor_word kept (λ h. cond_same (same_labels (tr_count m) (replaced on g (machine_of m))) (acceptor_mark m) (short h))
    where
      short : length (set labelled (mark_word on) 0) ≤ acceptor_word → acceptor_mark m ≡ 0
      short h = get_or-eq_default m 0 (omega (arith, h, length-set labelled (mark_word on) 0, length_records (heard g) (heard_zero g) from m))

  -- the words of the states
  pub same_state : (s k : ℕ) → k < state_words → state_word W s k ≡ state_word m s k
  unfolding state_word
  same_state s k h = ap (λ (n : ℕ). cond (ltb s n) (get_or W (header_words + state_words * s + k) 0) 0) same_states ∙ go (ltb s (state_count m)) refl
    where
      go : (b : Bool) → ltb s (state_count m) ≡ b → cond b (get_or W (header_words + state_words * s + k) 0) 0 ≡ cond b (get_or m (header_words + state_words * s + k) 0) 0
      go true e =
          let l = ltb-true s (state_count m) e in
          let p = mark_place on in
          before_labels (header_words + state_words * s + k) (omega (arith, l, h)) (λ q. omega (arith, p.1, q)) (λ q. omega (arith, q))
      go false e = refl

  -- word k of record t + 1
  abbrev place : ℕ → ℕ → ℕ
  place t k = header_words + state_words * state_count m + tr_words * t + k

  in_record : (t k : ℕ) → get_or W (place t k) 0 ≡ get_or labelled (place t k) 0
  in_record t k = let p = mark_place on in other_word (place t k) (λ e. omega (arith, p.1, e)) (λ e. omega (arith, e))

  same_place : (t k : ℕ) → tr_word W (suc t) k ≡ get_or W (place t k) 0
  unfolding tr_word
  same_place t k = ap (λ (n : ℕ). get_or W (header_words + state_words * n + tr_words * t + k) 0) same_states

  -- the label of the side is replaced
  pub label_after : (t : ℕ) → tr_word W t (word_on on) ≡ heard g (tr_word m t (word_on on))
  unfolding tr_word
  label_after zero = sym (heard_zero g)
  label_after (suc t) =
      same_place t (word_on on) ∙ (in_record t (word_on on) ∙ records_changed (heard g) (heard_zero g) from m (place t (word_on on)) t (omega arith))

  -- the others words of a record are as lent
  pub same_word : (t k : ℕ) → k < tr_words → k ≢ word_on on → tr_word W t k ≡ tr_word m t k
  unfolding tr_word
  same_word zero k h d = refl
  same_word (suc t) k h d = same_place t k ∙ (in_record t k ∙ go t (dec_lt k (word_on on)))
    where
      go : (t : ℕ) → Dec (k < word_on on) → get_or labelled (place t k) 0 ≡ get_or m (place t k) 0
      go zero (yes l) = records_before_lem (heard g) (heard_zero g) from m (place 0 k) (omega (arith, l))
      go (suc t) (yes l) = records_kept (heard g) (heard_zero g) from m (place (suc t) k) t (tr_words + k - word_on on) (omega (arith, label_place_lem on)) (omega (arith, l)) (omega (arith, l, label_place_lem on))
      go t (no l) = records_kept (heard g) (heard_zero g) from m (place t k) t (k - word_on on) (omega (arith, l, d)) (omega (arith, h)) (omega (arith, l))

  -- so are the lists
  pub same_first : (s : ℕ) → first_of W s ≡ first_of m s
  unfolding first_of first_ok
  same_first s = rw (same_state s 0 (omega arith), same_count)

  pub not_label : (k : ℕ) → 1 < k → k ≢ word_on on
  not_label k h e = let p = label_place_lem on in omega (arith, p, h, e)

  pub same_next : (t : ℕ) → next_of W t ≡ next_of m t
  unfolding next_of next_ok
  same_next t = rw (same_word t 4 (omega arith) (not_label 4 (omega arith)), same_count)

  same_list_by : (k t : ℕ) → list_by W k t ≡ list_by m k t
  unfolding list_by
  same_list_by zero t = refl
  same_list_by (suc k) zero = refl
  same_list_by (suc k) (suc t) = ap (λ (n : ℕ). suc t ∷ list_by W k n) (same_next (suc t)) ∙ ap (λ (l : List ℕ). suc t ∷ l) (same_list_by k (next_of m (suc t)))

  pub same_list_from : (t : ℕ) → list_from W t ≡ list_from m t
  unfolding list_from
  same_list_from t = ap (λ (n : ℕ). list_by W n t) same_count ∙ same_list_by (tr_count m) t

  pub same_list : (s : ℕ) → list_of W s ≡ list_of m s
  unfolding list_of
  same_list s = ap (list_from W) (same_first s) ∙ same_list_from (first_of m s)

-- the words hold the replaced machine
pub machine_replaced : (on : MatchType) (g : Ignored) (m : List ℕ) → machine_of (words_replaced on g m) ≡ replaced on g (machine_of m)
machine_replaced inputs g m = λ i. record {
  states = same_states inputs g m i;
  start = less_one (same_start inputs g m i);
  list = λ s. same_list inputs g m s i;
  input = λ t. label_after inputs g m t i;
  output = λ t. same_word inputs g m t 1 (omega arith) (λ e. omega (arith, e)) i;
  weight = λ t. same_word inputs g m t 2 (omega arith) (λ e. omega (arith, e)) i;
  target = λ t. same_word inputs g m t 3 (omega arith) (λ e. omega (arith, e)) i;
  is_final = λ s. eqb (same_state inputs g m s 1 (omega arith) i) 1;
  final_weight = λ s. same_state inputs g m s 2 (omega arith) i;
}
machine_replaced outputs g m = λ i. record {
  states = same_states outputs g m i;
  start = less_one (same_start outputs g m i);
  list = λ s. same_list outputs g m s i;
  input = λ t. same_word outputs g m t 0 (omega arith) (λ e. omega (arith, e)) i;
  output = λ t. label_after outputs g m t i;
  weight = λ t. same_word outputs g m t 2 (omega arith) (λ e. omega (arith, e)) i;
  target = λ t. same_word outputs g m t 3 (omega arith) (λ e. omega (arith, e)) i;
  is_final = λ s. eqb (same_state outputs g m s 1 (omega arith) i) 1;
  final_weight = λ s. same_state outputs g m s 2 (omega arith) i;
}

-- with the empty list a machine is replaced by itself
machine_kept : (on : MatchType) (σ τ : ℕ) (M : Machine) → M ≡ replaced on (record { list = []; sigma1 = σ; sigma2 = τ }) M
unfolding heard has
machine_kept inputs σ τ M = refl
machine_kept outputs σ τ M = refl

-- as lent under an empty list, else the other
pub otherwise_none : {A : Type 0} (xs : List ℕ) (a b : A) → length xs ≡ 0 → otherwise xs a b ≡ a
otherwise_none [] a b e = refl
otherwise_none (x ∷ xs) a b e = absurd (omega (arith, e))

pub otherwise_some : {A : Type 0} (xs : List ℕ) (a b : A) → length xs ≢ 0 → otherwise xs a b ≡ b
otherwise_some [] a b h = absurd (h refl)
otherwise_some (x ∷ xs) a b h = refl

-- what holds of the replaced words holds of the words that are read
read_same : {A : Type 0} (xs : List ℕ) (f : List ℕ → A) (m r : List ℕ) → f r ≡ f m → f (otherwise xs m r) ≡ f m
read_same [] f m r e = refl
read_same (x ∷ xs) f m r e = e

module _ (on : MatchType) (g : Ignored) (m : List ℕ) where
  pub read_length : length (words_read on g m) ≡ length m
  unfolding words_read
  read_length = read_same g.list length m (words_replaced on g m) (replaced_length on g m)

  pub read_states : state_count (words_read on g m) ≡ state_count m
  unfolding words_read
  read_states = read_same g.list state_count m (words_replaced on g m) (same_states on g m)

  pub read_count : tr_count (words_read on g m) ≡ tr_count m
  unfolding words_read
  read_count = read_same g.list tr_count m (words_replaced on g m) (same_count on g m)

  pub read_state : (s k : ℕ) → k < state_words → state_word (words_read on g m) s k ≡ state_word m s k
  unfolding words_read
  read_state s k h = read_same g.list (λ (w : List ℕ). state_word w s k) m (words_replaced on g m) (same_state on g m s k h)

  pub read_word : (t k : ℕ) → k < tr_words → k ≢ word_on on → tr_word (words_read on g m) t k ≡ tr_word m t k
  unfolding words_read
  read_word t k h d = read_same g.list (λ (w : List ℕ). tr_word w t k) m (words_replaced on g m) (same_word on g m t k h d)

  pub read_first : (s : ℕ) → first_of (words_read on g m) s ≡ first_of m s
  unfolding words_read
  read_first s = read_same g.list (λ (w : List ℕ). first_of w s) m (words_replaced on g m) (same_first on g m s)

  pub read_next : (t : ℕ) → next_of (words_read on g m) t ≡ next_of m t
  unfolding words_read
  read_next t = read_same g.list (λ (w : List ℕ). next_of w t) m (words_replaced on g m) (same_next on g m t)

  pub read_list : (s : ℕ) → list_of (words_read on g m) s ≡ list_of m s
  unfolding words_read
  read_list s = read_same g.list (λ (w : List ℕ). list_of w s) m (words_replaced on g m) (same_list on g m s)

  pub read_mark : side_mark on (words_read on g m) ≡ mark_read on g.list m
  unfolding words_read
  read_mark = go g.list
    where
      go : (xs : List ℕ) → side_mark on (otherwise xs m (words_replaced on g m)) ≡ otherwise xs (side_mark on m) 0
      go [] = refl
      go (x ∷ xs) = mark_zero on g m

  pub read_acceptor : acceptor_mark (words_read on g m) ≡ acceptor_read on g m
  unfolding words_read
  read_acceptor = go g.list
    where
      go : (xs : List ℕ) → acceptor_mark (otherwise xs m (words_replaced on g m)) ≡ otherwise xs (acceptor_mark m) (acceptor_after on (heard g) m)
      go [] = refl
      go (x ∷ xs) = acceptor_after_lem on g m

-- nothing is replaced under an empty list
pub read_none : (on : MatchType) (g : Ignored) (m : List ℕ) → length g.list ≡ 0 → words_read on g m ≡ m
unfolding words_read
read_none on g m e = otherwise_none g.list m (words_replaced on g m) e

-- so does the machine that they hold
machine_by : (xs : List ℕ) (σ τ : ℕ) (on : MatchType) (m : List ℕ)
    → let g : Ignored = record { list = xs; sigma1 = σ; sigma2 = τ } in machine_of (words_read on g m) ≡ replaced on g (machine_of m)
unfolding words_read
machine_by [] σ τ on m = machine_kept on σ τ (machine_of m)
machine_by (x ∷ xs) σ τ on m = machine_replaced on (record { list = x ∷ xs; sigma1 = σ; sigma2 = τ }) m

pub machine_read : (on : MatchType) (g : Ignored) (m : List ℕ) → machine_of (words_read on g m) ≡ replaced on g (machine_of m)
machine_read on g m = machine_by g.list g.sigma1 g.sigma2 on m

-- the label of the side on which a machine is matched
replaced_label : (on : MatchType) (g : Ignored) (M : Machine) (t : ℕ) → label_on on (replaced on g M) t ≡ heard g (label_on on M t)
replaced_label inputs g M t = refl
replaced_label outputs g M t = refl

pub read_label : (on : MatchType) (g : Ignored) (m : List ℕ) (t : ℕ) → label_on on (machine_of (words_read on g m)) t ≡ heard g (label_on on (machine_of m) t)
read_label on g m t = ap (λ (M : Machine). label_on on M t) (machine_read on g m) ∙ replaced_label on g (machine_of m) t

-- the operand of what a machine's words are read as is the operand of the definition
pub operand_read : (g : Ignored) (on : MatchType) (m : List ℕ) (sigma mode : ℕ) (allowed : Option (List ℕ))
    → operand_of on (words_read on g m) sigma mode allowed ≡ operand_under g on m sigma mode allowed
operand_read g on m sigma mode allowed = λ i. operand_by on (machine_read on g m i) (read_mark on g m i) (read_acceptor on g m i) sigma mode allowed

-- the transition of record t: its inner label as it is heard, its other words as lent
abbrev with_inner : MatchType → ℕ → ℕ → ℕ → ℕ → Tr
with_inner inputs x y w s = record { input = x; output = y; weight = w; target = s }
with_inner outputs x y w s = record { input = y; output = x; weight = w; target = s }

abbrev pub outer : MatchType → MatchType
outer inputs = outputs
outer outputs = inputs

pub tr_read : (on : MatchType) (g : Ignored) (m : List ℕ) (t : ℕ) {y w s : ℕ} → y ≡ label_on (outer on) (machine_of m) t → w ≡ tr_word m t 2 → s ≡ tr_word m t 3
    → with_inner on (label_on on (machine_of (words_read on g m)) t) y w s ≡ tr_of (machine_of (words_read on g m)) t
tr_read inputs g m t a b c = λ i. record {
  input = tr_word (words_read inputs g m) t 0;
  output = (a ∙ sym (read_word inputs g m t 1 (omega arith) (λ e. omega (arith, e)))) i;
  weight = (b ∙ sym (read_word inputs g m t 2 (omega arith) (λ e. omega (arith, e)))) i;
  target = (c ∙ sym (read_word inputs g m t 3 (omega arith) (λ e. omega (arith, e)))) i;
}
tr_read outputs g m t a b c = λ i. record {
  input = (a ∙ sym (read_word outputs g m t 0 (omega arith) (λ e. omega (arith, e)))) i;
  output = tr_word (words_read outputs g m) t 1;
  weight = (b ∙ sym (read_word outputs g m t 2 (omega arith) (λ e. omega (arith, e)))) i;
  target = (c ∙ sym (read_word outputs g m t 3 (omega arith) (λ e. omega (arith, e)))) i;
}

-- the acceptor mark is read by the acceptor property of the words that are read
pub acceptor_read_lem : (on : MatchType) (g : Ignored) (m : List ℕ) → acceptor (words_read on g m) ≡ same_labels (tr_count m) (replaced on g (machine_of m))
unfolding acceptor
acceptor_read_lem on g m = λ i. same_labels (read_count on g m i) (machine_read on g m i)

pub acceptor_mark_read : (on : MatchType) (g : Ignored) (m : List ℕ)
    → acceptor_mark (words_read on g m) ≡ otherwise g.list (acceptor_mark m) (cond (acceptor (words_read on g m)) (acceptor_mark m) 0)
acceptor_mark_read on g m = read_acceptor on g m ∙ ap (λ (b : Bool). otherwise g.list (acceptor_mark m) (cond b (acceptor_mark m) 0)) (sym (acceptor_read_lem on g m))

-- a mark that is not 0 is read under an empty list alone
pub marked_read : (on : MatchType) (g : Ignored) (m : List ℕ) (k : ℕ) → mark_read on g.list m ≡ suc k → (side_mark on m ≡ suc k) × (words_read on g m ≡ m)
unfolding words_read
marked_read on g m k = go g.list
  where
    go : (xs : List ℕ) → otherwise xs (side_mark on m) 0 ≡ suc k → (side_mark on m ≡ suc k) × (otherwise xs m (words_replaced on g m) ≡ m)
    go [] e = (e, refl)
    go (x ∷ xs) e = absurd (omega (arith, e))
