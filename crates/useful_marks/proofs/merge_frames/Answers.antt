use mathlib.Core.Path.{◌≡◌, sym, ◌∙◌}
use Prim.Native.Nat.{◌+◌, ◌-◌}
use native.Mathlib.Omega.{arith}
use borrow.Author.Rules.{rules}
use Rattle.useful_marks.proofs.MarkLaws.{merge_stops, merge_turn, merge_none}
use Rattle.useful_marks.proofs.merge_frames.Goals as goal

pub returns-then-middle_of-place : goal.returns-then-middle_of-place
returns-then-middle_of-place c =
    let e : c.loop-f.f - 1 + 1 ≡ c.loop-f.f = omega arith in
    e ∙ sym (merge_stops _ _ _ (search rules) (rw c.middle_of.ensures at c.if-middle_of-place.true)) ∙ c.loop-f.invariant

pub loop-f-preserved : goal.loop-f-preserved
loop-f-preserved c = merge_turn _ _ _ (search rules) (rw c.middle_of.ensures at c.if-middle_of-place.false) ∙ c.loop-f.invariant

pub returns : goal.returns
returns c = sym (merge_none _ _ c.loop-f.f (search rules)) ∙ c.loop-f.invariant
