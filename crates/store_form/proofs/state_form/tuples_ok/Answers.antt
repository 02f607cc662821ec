use mathlib.Core.Path.{sym, ◌∙◌}
use native.Mathlib.Nat.{sub-zero}
use Rattle.lists.proofs.Runs.{run_turn, run_end}
use Rattle.fst.proofs.Tests.{fails, holds}
use Rattle.calls.specs.Forms.{triple_ok}
use Rattle.store_form.proofs.state_form.tuples_ok.Goals as goal

pub loop-n-init : goal.loop-n-init
loop-n-init c = rw sub-zero

pub returns-then-not-tuple_ok : goal.returns-then-not-tuple_ok
returns-then-not-tuple_ok c = rw (run_turn (triple_ok _ _ _) _ _ _ c.loop-n-test.true, fails c.tuple_ok.ensures c.if-not-tuple_ok.true) at c.loop-n.invariant

pub loop-n-preserved : goal.loop-n-preserved
loop-n-preserved c = rw (run_turn (triple_ok _ _ _) _ _ _ c.loop-n-test.true, holds c.tuple_ok.ensures c.if-not-tuple_ok.false) at c.loop-n.invariant

pub returns : goal.returns
returns c = sym (run_end _ _ _ _ c.loop-n-test.false) ∙ c.loop-n.invariant
