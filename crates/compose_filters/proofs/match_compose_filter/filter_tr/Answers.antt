-- By cases of the move, and of f.
use Prim.Native.Nat.{suc, ◌-◌}
use mathlib.Core.Path.{◌≡◌}
use native.Mathlib.Omega.{arith}
use Rattle.compose_filters.proofs.match_compose_filter.filter_tr.Goals as goal

pub returns-in-Lone1 : goal.returns-in-Lone1
returns-in-Lone1 c = rw c.in-Lone1.is c.filter_lone1.ensures

pub returns-in-Lone2 : goal.returns-in-Lone2
returns-in-Lone2 c = rw c.in-Lone2.is c.filter_lone2.ensures

pub returns-then-f-eq0 : goal.returns-then-f-eq0
returns-then-f-eq0 c = rw (c.in-BothEpsilon.is, c.if-f-eq0.true)

pub returns-else-f-eq0 : goal.returns-else-f-eq0
returns-else-f-eq0 c = let e : c.args.f ≡ suc (c.args.f - 1) = omega arith in rw (c.in-BothEpsilon.is, e)

pub returns-in-ALabel : goal.returns-in-ALabel
returns-in-ALabel c = rw c.in-ALabel.is
