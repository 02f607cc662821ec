-- The places from here on give the whole.
use mathlib.Core.Path.{◌≡◌}
use Prim.Native.Nat.{◌-◌}
use Rattle.searches.specs.UsefulSearch.{settled_of}
use Rattle.useful_marks.proofs.settle_open.Given as goal

abbrev pub invariant-loop-p : goal.invariant-loop-p
invariant-loop-p l = settled_of l.work l.v l.p (l.to - l.p) ≡ settled_of l.initial.work l.v l.from (l.to - l.from)
