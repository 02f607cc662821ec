-- What the binary search of a known list asks, and its three ends.
use mathlib.Core.Path.{◌≡◌, sym, ◌∙◌}
use mathlib.Core.Bool.{true}
use mathlib.Core.List.{List}
use Prim.Native.Nat.{ℕ, ◌+◌, ◌-◌, ◌*◌, ◌/◌, ◌≤◌, ◌<◌}
use native.Mathlib.Omega.{arith}
use lib.ListN.{length, get_or}
use Rattle.words.specs.Labels.{eps_label}
use Rattle.words.specs.Matches.{MatchType, inputs, outputs}
use Rattle.words.specs.Machines.{word_on, tr_words, list_from}
use Rattle.fst.specs.Meaning.{on_of}
use Rattle.fst_reads.proofs.Inside.{size}
use Rattle.matchers.specs.Cursors.{with_label, head0}
use Rattle.sorted_lists.specs.Runs.{straight, label_place}
use Rattle.sorted_lists.specs.Seeks.{NoFalls, Sought}
use Rattle.sorted_lists.specs.Known.{Known}
use Rattle.sorted_lists.specs.declared.SortedList.{SortedList}
use Rattle.sorted_lists.proofs.Finds.{straight_room, straight_falls, straight_place, eps_few, find_end, find_other, find_label}

pub word_small : (on : MatchType) → word_on on ≤ 1
word_small inputs = omega arith
word_small outputs = omega arith

-- a list of consecutive records, where k is the word of a record that holds its label
module _ (m : List ℕ) (l : SortedList) (known : Known m l) (row : l.straight ≡ true) (k : ℕ) (word : k ≡ word_on (on_of l.on)) where
  abbrev on : MatchType
  on = on_of l.on

  consecutive : straight m l.first ≡ true
  consecutive = sym known.straight ∙ row

  -- where the labels after the epsilons begin, as the code counts it
  abbrev from : ℕ
  from = l.base + k + tr_words * (l.first + l.eps)

  from_place : from ≡ label_place on m (l.first + l.eps)
  unfolding label_place
  from_place = omega (arith, known.base, word)

  -- the epsilons are some of the records
  pub few : l.eps ≤ l.len
  few = rw (known.len, known.eps) (eps_few on m l.first known.first consecutive known.sorted)

  -- every number of the search is small
  pub bounds : (k ≤ 1) × (l.base ≤ 50331646) × (l.first + l.len ≤ 16777216)
  bounds =
      let f = size m known.form in
      let w = word_small on in
      let r = straight_room m l.first known.first consecutive in
      (omega (arith, word, w), omega (arith, known.base, f.states), omega (arith, known.len, r, f.trs))

  -- what `seek` requires
  pub asks : (from + tr_words * (l.len - l.eps) < length m + tr_words) × NoFalls m from (l.len - l.eps)
  asks =
      let few' : l.eps ≤ length (list_from m l.first) = rw (← known.len) few in
      rw (from_place, known.len) (
        straight_place on m l.first known.first consecutive known.sorted l.eps few' (size m known.form).words,
        straight_falls on m l.first known.first consecutive known.sorted l.eps few',
      )

  module _ (x r : ℕ) (some : eps_label < x) (s : Sought m from (l.len - l.eps) x r) where
    pub at_end : r ≡ from + tr_words * (l.len - l.eps) → 0 ≡ head0 (with_label on m x l.first)
    at_end e =
        sym (find_end on m l.first known.first consecutive known.sorted x r some (rw (from_place, known.eps, known.len) at s) (rw (from_place, known.eps, known.len) at e))

    pub at_other : (r ≡ from + tr_words * (l.len - l.eps) → ⊥) → (get_or m r 0 ≡ x → ⊥) → 0 ≡ head0 (with_label on m x l.first)
    at_other e d =
        sym (find_other on m l.first known.first consecutive known.sorted x r some (rw (from_place, known.eps, known.len) at s) (rw (from_place, known.eps, known.len) at e) d)

    pub at_label : (r ≡ from + tr_words * (l.len - l.eps) → ⊥) → get_or m r 0 ≡ x → (r - (l.base + k)) / tr_words ≡ head0 (with_label on m x l.first)
    at_label e d =
        rw (known.base, word)
        (sym (find_label on m l.first known.first consecutive known.sorted x r some (rw (from_place, known.eps, known.len) at s) (rw (from_place, known.eps, known.len) at e) d))

    -- a place before the end is in range
    pub in_range : (r ≡ from + tr_words * (l.len - l.eps) → ⊥) → r < length m
    in_range e = omega (arith, e, asks.0, s.place, s.within)

    -- and its record has a number
    pub numbered : (l.base + k ≤ r) × (r - (l.base + k) ≤ 83886080)
    numbered = (omega (arith, s.place), omega (arith, s.place, s.within, few, bounds.2))
