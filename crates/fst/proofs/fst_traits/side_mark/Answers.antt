-- By cases of the side: the word of its mark.
use Rattle.words.specs.Machines.{side_mark}
use Rattle.fst.proofs.fst_traits.side_mark.Goals as goal

pub returns-in-MatchInput : goal.returns-in-MatchInput
unfolding side_mark
returns-in-MatchInput c = rw (c.in-MatchInput.is, ← c.word.ensures)

pub returns-in-MatchOutput : goal.returns-in-MatchOutput
unfolding side_mark
returns-in-MatchOutput c = rw (c.in-MatchOutput.is, ← c.word-in-MatchOutput.ensures)
