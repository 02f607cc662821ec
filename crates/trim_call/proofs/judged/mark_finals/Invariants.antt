-- The states below n are marked, and the weights from n on tell the rest.
use mathlib.Core.Path.{◌≡◌}
use lib.ListN.{length}
use Rattle.words.specs.Labels.{good}
use Rattle.words.specs.Steps.{Composition}
use Rattle.calls.specs.Checks.{entered}
use Rattle.store_records.specs.Meaning.{memory_of, store_in}
use Rattle.lazy_fst.specs.Meaning.{lent_with, session_means}
use Rattle.trim_call.proofs.JudgedLaws.{Marking}
use Rattle.trim_call.proofs.judged.mark_finals.Given as goal

abbrev pub invariant-loop-n : goal.invariant-loop-n
invariant-loop-n l = record {
  sized : length l.work ≡ length l.initial.work;
  marking : (k : Composition) → entered (lent_with l.m1 l.m2 l.allowed1 l.allowed2 l.ignored l.listed) (session_means l.session) (memory_of l.heads l.states l.trs) ≡ good k → Marking k (store_in l.heads l.states l.trs l.session.used) l.work l.n;
}
