-- One class is all that the table lacks.
use native.Mathlib.Omega.{arith}
use lib.ListN.{length}
use Rattle.store_records.specs.Meaning.{store_in}
use Rattle.compose_walk.specs.Plans.{plan_steps}
use Rattle.compose_count.proofs.ClassLaws.{wanted_one}
use Rattle.compose_count.proofs.count_all.Goals as goal

pub returns-then-left-noted : goal.returns-then-left-noted
returns-then-left-noted c trs =
    let a = c.args in
    let steps = plan_steps a.plan a.mw.now a.mm.now in
    let w = wanted_one (store_in a.heads.now a.states.now trs a.used) (length steps) steps in
    let h = (c.requires.3 trs).0 in
    let t = c.if-left-noted.true in
    omega (arith, w, h, t)

pub returns : goal.returns
returns c trs =
    let a = c.args in
    let steps = plan_steps a.plan a.mw.now a.mm.now in
    let w = wanted_one (store_in a.heads.now a.states.now trs a.used) (length steps) steps in
    let h = (c.requires.3 trs).1 c.if-noted.false in
    let t = c.if-left-noted.false in
    omega (arith, w, h, t)
