-- What the code's own types, and a machine's words, stand for in the definitions of `words`.
use Rattle.std.specs.Prelude.{List, ℕ, Option, None, Some}
use Rattle.words.specs.Matches.{MatchType as Side, inputs, outputs, Tr as Transition}
use Rattle.words.specs.Sigmas.{Operand}
use Rattle.words.specs.Ignored.{Ignored, words_read}
use Rattle.words.specs.Settings.{operand_of}
use Rattle.fst.specs.declared.MatchType.{MatchType}
use Rattle.fst.specs.declared.MatchType.TheVariants.{MatchInput, MatchOutput}
use Rattle.fst.specs.declared.StateId.{StateId}
use Rattle.fst.specs.declared.Sigmas.{Sigmas}
use Rattle.fst.specs.declared.Matched.{Matched}
use Rattle.fst.specs.declared.Machines.{Machines}
use Rattle.fst.specs.declared.tr.Tr.{Tr}

-- "Machine 1 is matched on outputs, 2 on inputs.": the side that a MatchType names
abbrev pub on_of : MatchType → Side
on_of MatchInput = inputs
on_of MatchOutput = outputs

-- the number of a state, if there is one
abbrev pub number_if : Option StateId → Option ℕ
number_if (Some s) = Some s.0
number_if None = None

-- "input, output, weight, target state"
abbrev pub tr_means : Tr → Transition
tr_means r = record { input = r.ilabel.0; output = r.olabel.0; weight = r.weight; target = r.nextstate.0 }

-- A machine's words as an operand with a sigma label ("MAX means none"). What reads only its lists, its mark and its sigma label is said of this one: rewrite mode and
-- allowed list play no part there.
abbrev pub as_operand : Side → List ℕ → ℕ → Operand
as_operand on m sigma = operand_of on m sigma 0 None

-- what the list and the sigma labels replace
abbrev pub ignored_under : Sigmas → List ℕ → Ignored
ignored_under sigmas list = record { list = list; sigma1 = sigmas.first.0; sigma2 = sigmas.second.0 }

-- what the words of a machine that is matched on a side are read as
abbrev pub read_as : MatchType → Sigmas → List ℕ → List ℕ → List ℕ
read_as on sigmas list m = words_read (on_of on) (ignored_under sigmas list) m

-- what the words of a machine that is matched are read as
abbrev pub words_as_read : Matched → List ℕ
words_as_read m = read_as m.on m.sigmas m.ignored.now m.words.now

-- "Machine 1 is matched on outputs, 2 on inputs."
abbrev pub first_of_two : Machines → Matched
first_of_two p = record { words = p.m1; on = MatchOutput; sigmas = p.sigmas; ignored = p.ignored }

abbrev pub second_of_two : Machines → Matched
second_of_two p = record { words = p.m2; on = MatchInput; sigmas = p.sigmas; ignored = p.ignored }

-- both as operands, each with its sigma label
abbrev pub first_operand : Machines → Operand
first_operand p = as_operand outputs (words_as_read (first_of_two p)) p.sigmas.first.0

abbrev pub second_operand : Machines → Operand
second_operand p = as_operand inputs (words_as_read (second_of_two p)) p.sigmas.second.0
