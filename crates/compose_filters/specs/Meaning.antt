-- What the code's types stand for in 01's table, and a state's epsilons.
use Rattle.std.specs.Prelude.{Bool, true, false, not, List, ℕ, eqb}
use Rattle.lists.specs.Lists.{every}
use Rattle.papers.specs.Filter.{MoveKind as Row, lone1, lone2, bothEpsilon, aLabel, Facts as Seen}
use Rattle.words.specs.Labels.{eps_label}
use Rattle.words.specs.Matches.{MatchType, label_on}
use Rattle.words.specs.Machines.{machine_of, list_of}
use Rattle.compose_filters.specs.declared.MoveKind.{MoveKind}
use Rattle.compose_filters.specs.declared.MoveKind.TheVariants.{Lone1, Lone2, BothEpsilon, ALabel}
use Rattle.compose_filters.specs.declared.Facts.{Facts}

-- the rows: "1 alone", "2 alone", "both epsilon", "a label"
abbrev pub move_means : MoveKind → Row
move_means Lone1 = lone1
move_means Lone2 = lone2
move_means BothEpsilon = bothEpsilon
move_means ALabel = aLabel

-- "For machine i, "none" .. "all" .." in the present states
abbrev pub facts_mean : Facts → Seen
facts_mean φ = record { none1 = φ.none1; all1 = φ.all1; none2 = φ.none2; all2 = φ.all2 }

-- whether a label is epsilon where it is wanted, and is not where it is not
abbrev pub as_wanted : Bool → Bool → Bool
as_wanted true b = b
as_wanted false b = not b

-- that of record t on a side
unfoldable pub wanted_eps : Bool → MatchType → List ℕ → ℕ → Bool
wanted_eps wanted on m t = as_wanted wanted (eqb (label_on on (machine_of m) t) eps_label)

-- that of every record of a state's list: the part that "none" and "all" share
unfoldable pub epsilons_are : Bool → MatchType → List ℕ → ℕ → Bool
epsilons_are wanted on m s = every (wanted_eps wanted on m) (list_of m s)
