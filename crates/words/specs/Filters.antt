-- 01, "Filters", and 02, 2.1: the table, cell by cell.
use Rattle.std.specs.Prelude.{Bool, true, false, not, ℕ, zero, suc, Option, None, Some}
use Rattle.papers.specs.Filter.{lone1, lone2, bothEpsilon, aLabel, Facts, Filter, no_epsilon, only_epsilons, epsilon_sequencing, epsilon_sequencing_mirrored, epsilon_matching, null_filter, trivial_filter, no_match_filter}
use Rattle.words.specs.Sigmas.{Operand, inner}

-- ""none" means no epsilon on its inner side in the present state"
unfoldable pub none_at : Operand → ℕ → Bool
unfolding no_epsilon
none_at o s = no_epsilon (inner o) o.machine s

-- ""all" means only epsilons there and not final"
unfoldable pub all_at : Operand → ℕ → Bool
unfolding only_epsilons
all_at o s = only_epsilons (inner o) o.machine s

-- "For machine i", in the present pair of states
abbrev pub facts_at : Operand → Operand → ℕ → ℕ → Facts
facts_at A B s1 s2 = record { none1 = none_at A s1; all1 = all_at A s1; none2 = none_at B s2; all2 = all_at B s2 }

-- "Order within a cell counts." "all1 drop; none1 0; else 1", "all2 drop; none2 0; else 1": g is that 1
abbrev pub all_first : Bool → Bool → ℕ → Option ℕ
all_first true None? g = None
all_first false true g = Some 0
all_first false false g = Some g

-- "none2 0, all2 drop, else 1", "none1 0, all1 drop, else 2": g is that 1 or 2
abbrev pub none_first : Bool → Bool → ℕ → Option ℕ
none_first true all? g = Some 0
none_first false true g = None
none_first false false g = Some g

-- Each cell: the next f, or none where the move is dropped. f is at most 2 wherever a call looks ("f at most 2"); a larger one is read as 2.
abbrev pub sequence : Filter
sequence lone1 φ zero = Some 0
sequence lone1 φ (suc f) = None
sequence lone2 φ f = all_first φ.all1 φ.none1 1
sequence bothEpsilon φ f = None
sequence aLabel φ f = Some 0

abbrev pub alternate : Filter
alternate lone1 φ f = all_first φ.all2 φ.none2 1
alternate lone2 φ zero = Some 0
alternate lone2 φ (suc zero) = None
alternate lone2 φ (suc (suc f)) = Some 0
alternate bothEpsilon φ f = None
alternate aLabel φ f = Some 0

abbrev pub matching : Filter
matching lone1 φ zero = none_first φ.none2 φ.all2 1
matching lone1 φ (suc zero) = Some 1
matching lone1 φ (suc (suc f)) = None
matching lone2 φ zero = none_first φ.none1 φ.all1 2
matching lone2 φ (suc zero) = None
matching lone2 φ (suc (suc f)) = Some 2
matching bothEpsilon φ zero = Some 0
matching bothEpsilon φ (suc f) = None
matching aLabel φ f = Some 0

-- 02, 2.1: "null, trivial and no-match filters": "From any f each move is kept with f = 0, save that null drops both lone moves"
abbrev pub null : Filter
null lone1 φ f = None
null lone2 φ f = None
null bothEpsilon φ f = Some 0
null aLabel φ f = Some 0

abbrev pub trivial : Filter
trivial lone1 φ f = Some 0
trivial lone2 φ f = Some 0
trivial bothEpsilon φ f = Some 0
trivial aLabel φ f = Some 0

-- "and no-match drops "both epsilon""
abbrev pub no_match : Filter
no_match lone1 φ f = Some 0
no_match lone2 φ f = Some 0
no_match bothEpsilon φ f = None
no_match aLabel φ f = Some 0

-- "0 sequence", "1 alternate", "2 match"; 02, 2.1: null, trivial and no-match "become filter values 3, 4 and 5". A larger number is refused before it is read.
abbrev pub filter_of : ℕ → Filter
filter_of zero = sequence
filter_of (suc zero) = alternate
filter_of (suc (suc zero)) = matching
filter_of (suc (suc (suc zero))) = null
filter_of (suc (suc (suc (suc zero)))) = trivial
filter_of (suc (suc (suc (suc (suc n))))) = no_match

-- the papers' filter of each, which looks at neither "none" nor "all"
abbrev pub papers_filter_of : ℕ → Filter
papers_filter_of zero = epsilon_sequencing
papers_filter_of (suc zero) = epsilon_sequencing_mirrored
papers_filter_of (suc (suc zero)) = epsilon_matching
papers_filter_of (suc (suc (suc zero))) = null_filter
papers_filter_of (suc (suc (suc (suc zero)))) = trivial_filter
papers_filter_of (suc (suc (suc (suc (suc n))))) = no_match_filter

-- Ours, for the laws of a filter: from which f two paths can be taken to their ends. For sequence and match as for the papers' own. Alternate: in f = 1 no epsilon of
-- machine 2 may follow; an f above 1, which it never gives, is as 0.
abbrev pub alternate_live : ℕ → Bool → Bool → Bool
alternate_live zero x y = true
alternate_live (suc zero) x y = not y
alternate_live (suc (suc f)) x y = true

-- neither "none" nor "all" holds of a machine
abbrev pub neither : Facts
neither = record { none1 = false; all1 = false; none2 = false; all2 = false }
