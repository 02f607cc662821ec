-- By cases of f: 0, 1, more.
use Prim.Native.Nat.{suc, ◌-◌}
use mathlib.Core.Path.{◌≡◌}
use native.Mathlib.Omega.{arith}
use Rattle.compose_filters.proofs.match_compose_filter.filter_lone2.Goals as goal

pub returns-then-f-eq0 : goal.returns-then-f-eq0
returns-then-f-eq0 c = rw c.if-f-eq0.true c.none_first.ensures

pub returns-then-f-eq1 : goal.returns-then-f-eq1
returns-then-f-eq1 c = rw c.if-f-eq1.true

pub returns : goal.returns
returns c = let e : c.args.f ≡ suc (suc (c.args.f - 2)) = omega arith in rw e
