-- The remainder by no heads is the sum itself.
use mathlib.Core.Path.{refl, sym}
use native.Mathlib.Nat.{mod-zero}
use Rattle.calls.specs.Store.{slot}
use Rattle.state_table.proofs.slot.Goals as goal

pub returns-then-heads-eq0 : goal.returns-then-heads-eq0
unfolding slot
returns-then-heads-eq0 c = rw c.if-heads-eq0.true (sym (mod-zero _))

pub returns : goal.returns
unfolding slot
returns c = refl
