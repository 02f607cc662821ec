-- Which move goes first under each filter, where the rest of the path of T1, and of T2, begins with ε on its inner side or not. Ours: it says which of the composed paths of a
-- pair of paths a filter leaves; that it leaves this one and no other is what the laws of a filter (Laws) are about.
use Rattle.std.specs.Prelude.{Bool, true, false, not, ℕ, zero, suc}
use Rattle.papers.specs.Filter.{MoveKind, lone1, lone2, bothEpsilon, aLabel}

-- sequencing: the ε of T1 first, then those of T2, then a label of both
abbrev pub sequence_pick : Bool → Bool → MoveKind
sequence_pick true y = lone1
sequence_pick false true = lone2
sequence_pick false false = aLabel

-- its mirror image: the ε of T2 first
abbrev pub alternate_pick : Bool → Bool → MoveKind
alternate_pick x true = lone2
alternate_pick true false = lone1
alternate_pick false false = aLabel

-- matching: two ε go together
abbrev pub matching_pick : Bool → Bool → MoveKind
matching_pick true true = bothEpsilon
matching_pick true false = lone1
matching_pick false true = lone2
matching_pick false false = aLabel

-- From which filter states two rests that begin so can be taken to their ends. Sequencing: in f = 1 no ε of T1 may follow.
abbrev pub sequence_live : ℕ → Bool → Bool → Bool
sequence_live zero x y = true
sequence_live (suc f) x y = not x

-- its mirror image: in f = 1 no ε of T2
abbrev pub mirrored_live : ℕ → Bool → Bool → Bool
mirrored_live f x y = sequence_live f y x

-- matching: in f = 1 no ε of T2, in f = 2 none of T1
abbrev pub matching_live : ℕ → Bool → Bool → Bool
matching_live zero x y = true
matching_live (suc zero) x y = not y
matching_live (suc (suc f)) x y = not x
