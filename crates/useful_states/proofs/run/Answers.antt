use mathlib.Core.Path.{◌≡◌, ap, ◌∙◌}
use Prim.Native.Nat.{◌+◌, ◌-◌}
use native.Mathlib.Nat.{sub-zero}
use native.Mathlib.Omega.{arith}
use Rattle.searches.specs.UsefulSearch.{run_of}
use Rattle.useful_steps.specs.Meaning.{found_means}
use Rattle.useful_states.proofs.RunLaws.{run_turn, run_done, run_end}
use Rattle.useful_states.proofs.run.Goals as goal

pub loop-init : goal.loop-init
loop-init c heads u = rw sub-zero

pub returns-then-f : goal.returns-then-f
returns-then-f c heads u = run_done _ _ _ c.if-f.true ∙ c.loop.invariant heads u

pub loop-preserved : goal.loop-preserved
loop-preserved c heads u =
    let l = c.loop in
    let e : c.args.most - (l.counter + 1) ≡ c.args.most - l.counter - 1 = omega arith in
    rw e (ap (run_of _ _) (c.step-f.ensures heads u) ∙ (run_turn _ _ (found_means l.f l.work) (omega arith) c.if-f.false ∙ l.invariant heads u))

pub returns : goal.returns
returns c heads u = run_end _ (c.args.most - c.loop.counter) _ (omega arith) ∙ c.loop.invariant heads u
