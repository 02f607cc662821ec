use mathlib.Core.List.{[]}
use native.Mathlib.Omega.{arith}
use Rattle.store_records.specs.Meaning.{stored}
use Rattle.trim_passes.proofs.KeptLaws.{at_turn}
use Rattle.trim_lists.proofs.ListTurns.{turns, ends}
use Rattle.trim_lists.proofs.write_list.Goals as goal

pub link_to-requires : goal.link_to-requires
link_to-requires c =
    let a = (c.loop-r.invariant [] [] 0).count in
    let b = (c.requires [] [] 0).1 in
    omega (arith, a, b)

pub write_tr-requires : goal.write_tr-requires
write_tr-requires c =
    let w = c.loop-r.invariant [] [] 0 in
    let a = w.room in
    let b = w.same in
    let e = at_turn (stored [] [] c.args.trs.now 0 c.args.used) c.args.work.now _ _ c.loop-r-test.true (rw (c.next_record.ensures [] [] 0) at (c.next_kept-q.ensures [] [] 0)) in
    omega (arith, a, b, e)

pub overflow_add-here : goal.overflow_add-here
overflow_add-here c =
    let w = c.loop-r.invariant [] [] 0 in
    let a = w.room in
    let b = w.same in
    let e = at_turn (stored [] [] c.args.trs.now 0 c.args.used) c.args.work.now _ _ c.loop-r-test.true (rw (c.next_record.ensures [] [] 0) at (c.next_kept-q.ensures [] [] 0)) in
    omega (arith, a, b, e, c.ranges)

pub overflow_add-n : goal.overflow_add-n
overflow_add-n c =
    let a = (c.loop-r.invariant [] [] 0).count in
    let b = (c.requires [] [] 0).1 in
    omega (arith, a, b)

pub loop-r-smaller : goal.loop-r-smaller
loop-r-smaller c =
    let e = at_turn (stored [] [] c.args.trs.now 0 c.args.used) c.args.work.now _ _ c.loop-r-test.true (rw (c.next_record.ensures [] [] 0) at (c.next_kept-q.ensures [] [] 0)) in
    omega (arith, e)

pub loop-r-preserved : goal.loop-r-preserved
loop-r-preserved c = λ heads states u. turns _ _ _ _ _ _ _ _ _ _ _ _ _ (c.loop-r.invariant heads states u) c.loop-r-test.true (rw (c.next_record.ensures heads states u) at (c.next_kept-q.ensures heads states u)) c.link_to.ensures (c.write_tr.ensures heads states u _)

pub returns-clause-by_index : goal.returns-clause-by_index
returns-clause-by_index c = λ heads states u. (ends _ _ _ _ _ _ _ _ _ _ (c.loop-r.invariant heads states u) c.loop-r-test.false).0

pub returns-clause-words : goal.returns-clause-words
returns-clause-words c = λ heads states u. (ends _ _ _ _ _ _ _ _ _ _ (c.loop-r.invariant heads states u) c.loop-r-test.false).1
