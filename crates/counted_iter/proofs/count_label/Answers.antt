-- Each record of the label counts as one; there are at most as many as records.
use mathlib.Core.Path.{ap}
use native.Mathlib.Omega.{arith}
use lib.ListN.{length}
use Rattle.words.proofs.ListLaws.{link, list_turn}
use Rattle.words.proofs.ReplacedLaws.{read_count, read_next}
use Rattle.fst.specs.Meaning.{on_of, read_as, ignored_under}
use Rattle.matchers.proofs.Seeks.{with_outside, with_end}
use Rattle.counted_iter.proofs.Counts.{count_turn, count_few}
use Rattle.counted_iter.proofs.count_label.Goals as goal

pub returns-then-num_records-t-clause-value : goal.returns-then-num_records-t-clause-value
returns-then-num_records-t-clause-value c =
    let a = c.args in
    rw (with_outside _ _ _ _ (rw (c.num_records.ensures, ← read_count (on_of a.m.on) (ignored_under a.m.sigmas a.m.ignored.now) a.m.words.now) at c.if-num_records-t.true))

pub loop-at-init : goal.loop-at-init
loop-at-init c =
    let a = c.args in
    (rw (read_count (on_of a.m.on) (ignored_under a.m.sigmas a.m.ignored.now) a.m.words.now, ← c.num_records.ensures) c.if-num_records-t.false, omega arith)

pub overflow_add-n : goal.overflow_add-n
overflow_add-n c =
    let a = c.args in
    let words = read_as a.m.on a.m.sigmas a.m.ignored.now a.m.words.now in
    let l = c.loop-at.invariant in
    let e = count_turn (on_of a.m.on) words a.label.0 _ c.loop-at-test.true l.0 in
    let n = rw (c.eq.ensures, c.inner_label.ensures) at c.from-n.ensures in
    let h = count_few (on_of a.m.on) words a.label.0 a.t in
    let t = c.num_records.type_inv in
    let s = c.num_records.ensures in
    let same = read_count (on_of a.m.on) (ignored_under a.m.sigmas a.m.ignored.now) a.m.words.now in
    record { fits = omega (arith, l.1, e, n, h, t, s, same) }

pub loop-at-smaller : goal.loop-at-smaller
loop-at-smaller c =
    let a = c.args in
    let e = ap length (list_turn _ _ c.loop-at-test.true c.loop-at.invariant.0) in
    rw (c.next_tr-at.ensures, ← read_next (on_of a.m.on) (ignored_under a.m.sigmas a.m.ignored.now) a.m.words.now c.loop-at.at) (omega arith)

pub loop-at-preserved : goal.loop-at-preserved
loop-at-preserved c =
    let a = c.args in
    let l = c.loop-at.invariant in
    let e = count_turn (on_of a.m.on) (read_as a.m.on a.m.sigmas a.m.ignored.now a.m.words.now) a.label.0 _ c.loop-at-test.true l.0 in
    let n = rw (c.eq.ensures, c.inner_label.ensures) at c.from-n.ensures in
    rw (c.next_tr-at.ensures, ← read_next (on_of a.m.on) (ignored_under a.m.sigmas a.m.ignored.now) a.m.words.now c.loop-at.at) ((link _ _).inside, omega (arith, l.1, e, n))

pub returns-clause-value : goal.returns-clause-value
returns-clause-value c =
    let a = c.args in
    let l = c.loop-at.invariant.1 in
    let none = ap length (with_end (on_of a.m.on) (read_as a.m.on a.m.sigmas a.m.ignored.now a.m.words.now) a.label.0 _ c.loop-at-test.false) in
    omega (arith, l, none)

pub returns-clause-few : goal.returns-clause-few
returns-clause-few c =
    let a = c.args in
    let l = c.loop-at.invariant.1 in
    let h = count_few (on_of a.m.on) (read_as a.m.on a.m.sigmas a.m.ignored.now a.m.words.now) a.label.0 a.t in
    let t = c.num_records.type_inv in
    let e = c.num_records.ensures in
    let same = read_count (on_of a.m.on) (ignored_under a.m.sigmas a.m.ignored.now) a.m.words.now in
    omega (arith, l, h, t, e, same)
