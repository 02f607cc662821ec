-- The rows of the states from n on, written behind what is done, make the rows of all.
use mathlib.Core.Path.{◌≡◌}
use lib.ListN.{length}
use Rattle.words.specs.Labels.{good}
use Rattle.words.specs.Steps.{Composition}
use Rattle.words.specs.Settings.{Lent}
use Rattle.calls.specs.Store.{Memory, Store}
use Rattle.calls.specs.Checks.{Session, entered}
use Rattle.store_records.specs.Meaning.{memory_of, store_in}
use Rattle.lazy_fst.specs.Meaning.{lent_with, session_means}
use Rattle.trim_passes.specs.Passes.{rows_from}
use Rattle.trim_rows.specs.Rows.{done_means, nothing, filled, Fits}
use Rattle.trim_rows.proofs.write_rows.Given as goal

abbrev pub invariant-loop-n : goal.invariant-loop-n
invariant-loop-n l =
    let given : Lent = lent_with l.m1 l.m2 l.allowed1 l.allowed2 l.ignored l.listed in
    let s : Session = session_means l.session in
    let m : Memory = memory_of l.heads l.states l.trs in
    let d : Store = store_in l.heads l.states l.trs l.session.used in
    record {
      sized : length l.out ≡ length l.initial.out;
      fits : (k : Composition) → entered given s m ≡ good k → Fits l.rows (length l.initial.out) (done_means l.done) (rows_from k d l.work l.n);
      words : (k : Composition) → entered given s m ≡ good k → filled l.rows (done_means l.done) (rows_from k d l.work l.n) l.out ≡ filled l.rows nothing (rows_from k d l.work 0) l.initial.out;
    }
