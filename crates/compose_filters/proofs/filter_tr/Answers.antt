-- By the filter's number.
use Prim.Native.Nat.{suc, ◌-◌}
use mathlib.Core.Path.{◌≡◌}
use native.Mathlib.Omega.{arith}
use Rattle.compose_filters.specs.Meaning.{move_means}
use Rattle.compose_filters.proofs.filter_tr.Goals as goal

pub returns-in-0 : goal.returns-in-0
returns-in-0 c = rw c.in-0.is c.filter_tr.ensures

pub returns-in-1 : goal.returns-in-1
returns-in-1 c = rw c.in-1.is c.filter_tr-in-1.ensures

pub returns-in-2 : goal.returns-in-2
returns-in-2 c = rw c.in-2.is c.filter_tr-in-2.ensures

pub returns-in-3 : goal.returns-in-3
returns-in-3 c = rw c.in-3.is (c.filter_tr-in-3.ensures _ _)

pub returns-in-4 : goal.returns-in-4
returns-in-4 c = rw c.in-4.is (c.filter_tr-in-4.ensures (move_means c.args.kind) _ _)

pub returns-in_default : goal.returns-in_default
returns-in_default c =
    let e : c.args.filter ≡ suc (suc (suc (suc (suc (c.args.filter - 5))))) = omega arith in
    rw e (c.filter_tr-in_default.ensures _ _)
