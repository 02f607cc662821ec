-- The word at its place; number 0 has words 0.
use mathlib.Core.Path.{◌∙◌}
use native.Mathlib.Omega.{arith}
use Rattle.words.proofs.FormLaws.{tr_at_lem}
use Rattle.words.specs.Machines.{tr_word}
use Rattle.fst.proofs.fst_traits.tr_word.Goals as goal

pub returns-then-t-eq0 : goal.returns-then-t-eq0
unfolding tr_word
returns-then-t-eq0 c = rw c.if-t-eq0.true

pub returns : goal.returns
returns c = c.word.ensures ∙ cc (c.num_states-n.ensures, tr_at_lem _ c.args.t c.args.k (omega (arith, c.if-t-eq0.false)))
