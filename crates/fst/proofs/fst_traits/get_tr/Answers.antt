-- By cases of the side: each field is read by its own function.
use Rattle.words.specs.Matches.{inputs, outputs}
use Rattle.words.proofs.ReplacedLaws.{tr_read}
use Rattle.fst.proofs.fst_traits.get_tr.Goals as goal

pub returns-in-MatchInput : goal.returns-in-MatchInput
returns-in-MatchInput c =
    rw (c.inner_label-inner.ensures, c.in-MatchInput.is) (tr_read inputs _ _ _ c.label_on.ensures c.tr_word-weight.ensures c.tr_word.ensures)

pub returns-in-MatchOutput : goal.returns-in-MatchOutput
returns-in-MatchOutput c =
    rw (c.inner_label-inner.ensures, c.in-MatchOutput.is) (tr_read outputs _ _ _ c.label_on-in-MatchOutput.ensures c.tr_word-weight.ensures c.tr_word.ensures)
