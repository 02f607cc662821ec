use mathlib.Core.Path.{refl, ap}
use native.Mathlib.Omega.{arith}
use lib.ListN.{length}
use Rattle.words.proofs.ListLaws.{link, list_turn}
use Rattle.words.proofs.ReplacedLaws.{read_count, read_next}
use Rattle.fst.specs.Meaning.{on_of, ignored_under}
use Rattle.matchers.proofs.Seeks.{with_outside, with_end, with_turn}
use Rattle.matchers.proofs.seek.Goals as goal

pub returns-then-num_records-t : goal.returns-then-num_records-t
returns-then-num_records-t c =
    let a = c.args in
    rw (with_outside _ _ _ _ (rw (c.num_records.ensures, ← read_count (on_of a.m.on) (ignored_under a.m.sigmas a.m.ignored.now) a.m.words.now) at c.if-num_records-t.true))

pub loop-at-init : goal.loop-at-init
loop-at-init c =
    let a = c.args in
    (rw (read_count (on_of a.m.on) (ignored_under a.m.sigmas a.m.ignored.now) a.m.words.now, ← c.num_records.ensures) c.if-num_records-t.false, refl)

pub returns-then-eq : goal.returns-then-eq
returns-then-eq c =
    let l = c.loop-at.invariant in
    rw (← l.1, with_turn _ _ _ _ c.loop-at-test.true l.0, ← c.inner_label.ensures, ← c.eq.ensures, c.if-eq.true)

pub loop-at-smaller : goal.loop-at-smaller
loop-at-smaller c =
    let e = ap length (list_turn _ _ c.loop-at-test.true c.loop-at.invariant.0) in
    let a = c.args in
    rw (c.next_tr-at.ensures, ← read_next (on_of a.m.on) (ignored_under a.m.sigmas a.m.ignored.now) a.m.words.now c.loop-at.at) (omega arith)

pub loop-at-preserved : goal.loop-at-preserved
loop-at-preserved c =
    let l = c.loop-at.invariant in
    let a = c.args in
    rw (c.next_tr-at.ensures, ← read_next (on_of a.m.on) (ignored_under a.m.sigmas a.m.ignored.now) a.m.words.now c.loop-at.at) ((link _ _).inside, rw (with_turn _ _ _ _ c.loop-at-test.true l.0, ← c.inner_label.ensures, ← c.eq.ensures, c.if-eq.false) at l.1)

pub returns : goal.returns
returns c = rw (← c.loop-at.invariant.1, with_end _ _ _ _ c.loop-at-test.false)
