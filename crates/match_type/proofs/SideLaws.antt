-- The side does not depend on rewrite modes and allowed lists: what `match_type` answers is `side_of` of the operands of any call.
use mathlib.Core.Path.{◌≡◌, sym}
use Rattle.words.specs.Matches.{inputs, outputs}
use Rattle.words.specs.Ignored.{words_read}
use Rattle.words.specs.Sides.{side_of}
use Rattle.words.specs.Settings.{Settings, Lent, ignored_by, operand1, operand2}
use Rattle.words.proofs.ReplacedLaws.{operand_read}
use Rattle.fst.specs.Meaning.{as_operand}

pub side_of_call : (s : Settings) (l : Lent)
    → side_of (operand1 s l) (operand2 s l)
    ≡ side_of (as_operand outputs (words_read outputs (ignored_by s l) l.m1) s.sigma1) (as_operand inputs (words_read inputs (ignored_by s l) l.m2) s.sigma2)
unfolding side_of
side_of_call s l =
    sym (λ i. side_of (operand_read (ignored_by s l) outputs l.m1 s.sigma1 s.mode1 l.allowed1 i) (operand_read (ignored_by s l) inputs l.m2 s.sigma2 s.mode2 l.allowed2 i))
