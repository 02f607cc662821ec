use mathlib.Core.Path.{◌≡◌}
use Prim.Native.Nat.{suc, ◌+◌, ◌-◌}
use native.Mathlib.Nat.{sub-zero}
use native.Mathlib.Omega.{arith}
use Rattle.compose_run.proofs.RunTurns.{run_ends, run_over, stop_ends, stop_over, new_kept, new_turn, new_stop, refused_turn, refused_stop}
use Rattle.compose_run.proofs.MemoTurns.{memo_ends, memo_over, new_memo, refused_memo}
use Rattle.compose_run.proofs.compute_from.Goals as goal

pub loop-init : goal.loop-init
loop-init c =
    let p = c.requires in
    record { checks = p.0; ran = rw sub-zero; next = rw sub-zero; asked1 = rw sub-zero; asked2 = rw sub-zero; remembered1 = p.1; remembered2 = p.2 }

pub returns-then-latest-next : goal.returns-then-latest-next
returns-then-latest-next c =
    let i = c.loop.invariant in
    let late = c.if-latest-next.true in
    let some : c.args.count - c.loop.counter ≡ suc (c.args.count - (c.loop.counter + 1)) = omega arith in
    record {
      ran_after = run_ends _ _ _ _ _ _ _ some late i.ran;
      next = stop_ends _ _ _ _ _ _ _ _ i.checks some late i.next;
      asked = (memo_ends _ _ _ _ _ _ _ _ _ _ i.checks some late i.asked1, memo_ends _ _ _ _ _ _ _ _ _ _ i.checks some late i.asked2);
      remembered = (i.remembered1, i.remembered2);
    }

pub returns-in-Err : goal.returns-in-Err
returns-in-Err c =
    let i = c.loop.invariant in
    let w = c.in-Err.ensures in
    let q = w.result_after in
    let some : c.args.count - c.loop.counter ≡ suc (c.args.count - (c.loop.counter + 1)) = omega arith in
    record {
      ran_after = refused_turn _ _ _ _ _ _ _ q _ _ _ some c.if-latest-next.false i.ran;
      next = refused_stop _ _ _ _ _ _ _ q _ _ _ some i.next;
      asked = (refused_memo _ _ _ _ _ _ _ w.asked.0 _ _ _ q _ _ _ some i.asked1, refused_memo _ _ _ _ _ _ _ w.asked.1 _ _ _ q _ _ _ some i.asked2);
      remembered = w.remembered;
    }

pub loop-preserved : goal.loop-preserved
loop-preserved c =
    let i = c.loop.invariant in
    let w = c.in-Ok.ensures in
    let q = w.result_after in
    let some : c.args.count - c.loop.counter ≡ suc (c.args.count - (c.loop.counter + 1)) = omega arith in
    record {
      checks = new_kept _ _ _ _ _ _ q _ i.checks;
      ran = new_turn _ _ _ _ _ _ q _ _ _ some c.if-latest-next.false i.ran;
      next = new_stop _ _ _ _ _ _ q _ _ _ some i.next;
      asked1 = new_memo _ _ _ _ _ _ _ w.asked.0 _ _ q _ _ _ some i.asked1;
      asked2 = new_memo _ _ _ _ _ _ _ w.asked.1 _ _ q _ _ _ some i.asked2;
      remembered1 = w.remembered.0;
      remembered2 = w.remembered.1;
    }

pub returns : goal.returns
returns c =
    let i = c.loop.invariant in
    let over : c.args.count - c.loop.counter ≡ 0 = omega arith in
    record {
      ran_after = run_over _ _ _ _ _ _ over i.ran;
      next = stop_over _ _ _ _ _ _ over i.next;
      asked = (memo_over _ _ _ _ _ _ _ _ over i.asked1, memo_over _ _ _ _ _ _ _ _ over i.asked2);
      remembered = (i.remembered1, i.remembered2);
    }
