use mathlib.Core.Path.{◌≡◌, refl, sym, ◌∙◌, ap}
use mathlib.Core.Bool.{Bool, true, false, ◌||◌, true≢false}
use mathlib.Core.List.{[]}
use Prim.Native.Nat.{◌+◌}
use native.Mathlib.Omega.{arith}
use lib.ListN.{length}
use Rattle.store_records.specs.Meaning.{store_in}
use Rattle.compose_walk.specs.Plans.{plan_steps}
use Rattle.compose_count.proofs.ClassLaws.{lacked_below, lacked_first, lacked_next, lacked_last, lacked_most, lacked_some}
use Rattle.compose_count.proofs.count_new.Goals as goal

-- of two flags that are both down
neither : (a b : Bool) → a || b ≡ false → (a ≡ false) × (b ≡ false)
neither false b e = (refl, e)
neither true b e = absurd (true≢false e)

pub loop-class-init : goal.loop-class-init
loop-class-init c =
    let a = c.args in
    let steps = plan_steps a.plan a.mw.now a.mm.now in
    record {
      enough = omega arith;
      told = λ trs. let z = lacked_first (store_in a.heads.now a.states.now trs a.used) a.classes (length steps) steps in (omega (arith, z), λ e. sym z);
    }

pub overflow_add-sum : goal.overflow_add-sum
overflow_add-sum c =
    let a = c.args in
    let l = c.loop-class in
    let steps = plan_steps a.plan a.mw.now a.mm.now in
    let d = store_in a.heads.now a.states.now [] a.used in
    let h = (c.count_class-noted.ensures []).0 in
    let s = (l.invariant.told []).0 in
    let n = lacked_next d a.classes (length steps) steps l.class in
    let m = lacked_most d a.classes (length steps) steps (l.class + 1) in
    let f = c.requires.3 in
    omega (arith, h, s, n, m, f)

pub returns-then-left-sum : goal.returns-then-left-sum
returns-then-left-sum c trs =
    let a = c.args in
    let l = c.loop-class in
    let steps = plan_steps a.plan a.mw.now a.mm.now in
    let d = store_in a.heads.now a.states.now trs a.used in
    let h = (c.count_class-noted.ensures trs).0 in
    let s = (l.invariant.told trs).0 in
    let n = lacked_next d a.classes (length steps) steps l.class in
    let m = lacked_some d a.classes (length steps) steps (l.class + 1) in
    let t = c.if-left-sum.true in
    omega (arith, h, s, n, m, t)

pub loop-class-preserved : goal.loop-class-preserved
loop-class-preserved c =
    let a = c.args in
    let l = c.loop-class in
    let steps = plan_steps a.plan a.mw.now a.mm.now in
    record {
      enough = c.if-left-sum.false;
      told = λ trs.
          let d = store_in a.heads.now a.states.now trs a.used in
          let w = c.count_class-noted.ensures trs in
          let h = w.0 in
          let s = l.invariant.told trs in
          let least = s.0 in
          let n = lacked_next d a.classes (length steps) steps l.class in (
            omega (arith, h, least, n),
            λ e.
                let both = neither l.full _ e in
                let x = s.1 both.0 in
                let y = w.1 both.1 in
                omega (arith, x, y, n),
          );
    }

pub returns-else-full : goal.returns-else-full
returns-else-full c trs =
    let a = c.args in
    let l = c.loop-class in
    let steps = plan_steps a.plan a.mw.now a.mm.now in
    let d = store_in a.heads.now a.states.now trs a.used in
    let z : l.class ≡ a.classes = omega arith in
    let e = (l.invariant.told trs).1 c.if-full.false ∙ (ap (lacked_below d a.classes (length steps) steps) z ∙ lacked_last d a.classes (length steps) steps c.requires.0) in
    let h = l.invariant.enough in
    omega (arith, e, h)
