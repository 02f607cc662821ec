-- The labels after the epsilons stand five words apart and do not fall: the search applies, and each of its ends is a law.
use native.Mathlib.Omega.{arith}
use borrow.Author.Rules.{rules}
use Rattle.sorted_lists.proofs.Ends.{few, bounds, asks, at_end, at_other, at_label, in_range, numbered}
use Rattle.sorted_lists.proofs.find_straight.Goals.{then-p-from-via-then-p-from, then-p-from-via-else-p-from+then-m-p}
use Rattle.sorted_lists.proofs.find_straight.Goals as goal

pub overflow_add-zero : goal.overflow_add-zero
overflow_add-zero c =
    let p = c.requires in
    let q = bounds _ _ p.0 p.2 _ c.word_on.ensures in
    omega (arith, q.0, q.1)

pub overflow_add-from : goal.overflow_add-from
overflow_add-from c =
    let p = c.requires in
    let q = bounds _ _ p.0 p.2 _ c.word_on.ensures in
    let f = few _ _ p.0 p.2 _ c.word_on.ensures in
    omega (arith, q.2, f)

pub overflow_add-from-2 : goal.overflow_add-from-2
overflow_add-from-2 c =
    let p = c.requires in
    let q = bounds _ _ p.0 p.2 _ c.word_on.ensures in
    let f = few _ _ p.0 p.2 _ c.word_on.ensures in
    omega (arith, q.0, q.1, q.2, f)

pub overflow_sub-count : goal.overflow_sub-count
overflow_sub-count c =
    let p = c.requires in
    few _ _ p.0 p.2 _ c.word_on.ensures

pub seek-p-requires : goal.seek-p-requires
seek-p-requires c =
    let p = c.requires in
    asks _ _ p.0 p.2 _ c.word_on.ensures

pub overflow_add-from-3 : goal.overflow_add-from-3
overflow_add-from-3 c =
    let p = c.requires in
    let q = (asks _ _ p.0 p.2 _ c.word_on.ensures).0 in
    search rules

pub offset_bounds-m-p : goal.offset_bounds-m-p
offset_bounds-m-p c =
    let p = c.requires in
    let q = in_range _ _ p.0 p.2 _ c.word_on.ensures _ _ p.1 c.seek-p.ensures c.if-p-from.false in
    search rules

pub bounds-m-p : goal.bounds-m-p
bounds-m-p c =
    let p = c.requires in
    let q = in_range _ _ p.0 p.2 _ c.word_on.ensures _ _ p.1 c.seek-p.ensures c.if-p-from.false in
    search rules

-- past the last record, or at another label
pub returns-then-p-from : goal.returns-then-p-from
returns-then-p-from c =
    let p = c.requires in
    elim c.then-p-from.branch [
      | then-p-from-via-then-p-from w ↦ at_end _ _ p.0 p.2 _ c.word_on.ensures _ _ p.1 c.seek-p.ensures w.if-p-from.true
      | then-p-from-via-else-p-from+then-m-p w ↦ at_other _ _ p.0 p.2 _ c.word_on.ensures _ _ p.1 c.seek-p.ensures w.if-p-from.false w.if-m-p.true
    ]

pub overflow_sub-result : goal.overflow_sub-result
overflow_sub-result c =
    let p = c.requires in
    (numbered _ _ p.0 p.2 _ c.word_on.ensures _ _ p.1 c.seek-p.ensures).0

pub overflow_cast-result : goal.overflow_cast-result
overflow_cast-result c =
    let p = c.requires in
    let q = (numbered _ _ p.0 p.2 _ c.word_on.ensures _ _ p.1 c.seek-p.ensures).1 in
    omega (arith, q)

-- at the label
pub returns : goal.returns
returns c =
    let p = c.requires in
    at_label _ _ p.0 p.2 _ c.word_on.ensures _ _ p.1 c.seek-p.ensures c.if-p-from.false c.if-m-p.false
