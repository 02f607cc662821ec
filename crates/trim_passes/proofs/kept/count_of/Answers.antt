use mathlib.Core.Path.{refl, sym, ◌∙◌}
use borrow.Author.Tests.{eq-eqb, ne_eqb}
use Rattle.trim_passes.specs.Passes.{number_in}
use Rattle.trim_passes.proofs.kept.count_of.Goals as goal

pub returns-then-number_of-eq0 : goal.returns-then-number_of-eq0
returns-then-number_of-eq0 c = λ heads u. rw (eq-eqb (number_in c.args.work.now c.args.n) 0 (sym c.number_of.ensures ∙ c.if-number_of-eq0.true)) refl

pub returns : goal.returns
returns c = λ heads u. rw (ne_eqb (number_in c.args.work.now c.args.n) 0 (λ e. c.if-number_of-eq0.false (c.number_of.ensures ∙ e)), ← c.first_record.ensures heads c.args.trs.now u) (c.count_list.ensures heads c.args.states.now u)
