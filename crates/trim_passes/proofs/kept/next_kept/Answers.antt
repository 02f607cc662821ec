use mathlib.Core.Path.{refl, sym, ◌∙◌}
use mathlib.Core.List.{[]}
use Rattle.store_records.specs.Meaning.{stored}
use Rattle.trim_passes.proofs.KeptLaws.{kept_here, kept_skip, kept_end, list_less}
use Rattle.trim_passes.proofs.kept.next_kept.Goals as goal

pub loop-r-init : goal.loop-r-init
loop-r-init c = λ heads states u. refl

pub returns-then-number_of-gt0 : goal.returns-then-number_of-gt0
returns-then-number_of-gt0 c = λ heads states u. sym (c.loop-r.invariant heads states u) ∙ kept_here (stored heads states _ u _) _ _ c.loop-r-test.true (rw (c.number_of.ensures, c.target_record.ensures) at c.if-number_of-gt0.true)

pub loop-r-smaller : goal.loop-r-smaller
loop-r-smaller c = rw (c.next_record-r.ensures [] [] 0) (list_less (stored [] [] _ 0 _) _ c.loop-r-test.true)

pub loop-r-preserved : goal.loop-r-preserved
loop-r-preserved c = λ heads states u. rw (c.next_record-r.ensures heads states u) (sym (kept_skip (stored heads states _ u _) _ _ c.loop-r-test.true (rw (c.number_of.ensures, c.target_record.ensures) at c.if-number_of-gt0.false)) ∙ c.loop-r.invariant heads states u)

pub returns : goal.returns
returns c = λ heads states u. sym (c.loop-r.invariant heads states u) ∙ kept_end (stored heads states _ u _) _ _ c.loop-r-test.false
