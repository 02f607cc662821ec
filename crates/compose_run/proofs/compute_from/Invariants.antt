-- What the rest of the piece gives, and where it stands, stay the same from turn to turn; the checks pass at each, and what is remembered is true.
use mathlib.Core.Path.{◌≡◌}
use Prim.Native.Nat.{◌-◌}
use Rattle.words.specs.Labels.{good}
use Rattle.words.specs.Matches.{inputs, outputs}
use Rattle.words.specs.Settings.{Lent}
use Rattle.calls.specs.Store.{Memory}
use Rattle.calls.specs.Checks.{Session, entered}
use Rattle.calls.specs.Calls.{run_from}
use Rattle.calls.specs.Owned.{stop_from}
use Rattle.compose_fst_op.specs.Composing.{lent_of, composing}
use Rattle.store_records.specs.Meaning.{memory_of}
use Rattle.compose_expand.specs.Memos.{Remembered}
use Rattle.compose_store.specs.Meaning.{session_under}
use Rattle.compose_run.specs.Memos.{memo_from}
use Rattle.compose_run.proofs.compute_from.Given as goal

abbrev pub invariant-loop : goal.invariant-loop
invariant-loop l =
    let given : Lent = lent_of l.options l.m1 l.m2 l.a1 l.a2 l.ignored in
    let s : Session = session_under l.options l.latest in
    let m : Memory = memory_of l.heads l.states l.trs in
    let s0 : Session = session_under l.options l.initial.latest in
    let m0 : Memory = memory_of l.initial.heads l.initial.states l.initial.trs in
    record {
      checks : entered given s m ≡ good (composing l.options l.m1 l.m2 l.a1 l.a2 l.ignored);
      ran : run_from given (l.count - l.counter) l.next.0 s m ≡ run_from given l.count l.initial.next.0 s0 m0;
      next : stop_from given (l.count - l.counter) l.next.0 s m ≡ stop_from given l.count l.initial.next.0 s0 m0;
      asked1 : memo_from outputs given (l.count - l.counter) l.next.0 s m l.memo1 ≡ memo_from outputs given l.count l.initial.next.0 s0 m0 l.initial.memo1;
      asked2 : memo_from inputs given (l.count - l.counter) l.next.0 s m l.memo2 ≡ memo_from inputs given l.count l.initial.next.0 s0 m0 l.initial.memo2;
      remembered1 : Remembered outputs given s l.memo1;
      remembered2 : Remembered inputs given s l.memo2;
    }
