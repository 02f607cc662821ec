-- By cases of the side: the record's word of that label.
use Rattle.fst.proofs.fst_traits.label_on.Goals as goal

pub returns-in-MatchInput : goal.returns-in-MatchInput
returns-in-MatchInput c = rw (c.in-MatchInput.is, ← c.tr_word.ensures)

pub returns-in-MatchOutput : goal.returns-in-MatchOutput
returns-in-MatchOutput c = rw (c.in-MatchOutput.is, ← c.tr_word-in-MatchOutput.ensures)
