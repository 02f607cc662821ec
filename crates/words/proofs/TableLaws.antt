-- 01's three filters satisfy the laws of a filter: computed at f = 0, 1 and every larger f, with the papers' `live` and `pick` but where a state above 1 differs. Without
-- "none" and "all" they are the papers' three. 02's three, null, trivial and no-match, are OpenFst's.
-- All six keep a label.
use mathlib.Core.Path.{◌≡◌, refl}
use mathlib.Core.Bool.{true}
use Rattle.std.specs.Prelude.{Some}
use Prim.Native.Nat.{ℕ, zero, suc, ◌≤◌}
use native.Mathlib.Omega.{arith}
use Rattle.lists.specs.Finite.{both, implies, all_b}
use Rattle.papers.specs.Filter.{MoveKind, lone1, lone2, bothEpsilon, aLabel, Facts, epsilon_sequencing, epsilon_sequencing_mirrored, epsilon_matching, null_filter, trivial_filter, no_match_filter}
use Rattle.papers.specs.Pick.{sequence_pick, alternate_pick, matching_pick, sequence_live, matching_live}
use Rattle.papers.specs.Laws.{Lawful}
use Rattle.papers.proofs.FilterLaws.{all_k, same_k, lawful, laws}
use Rattle.words.specs.Filters.{sequence, alternate, matching, null, trivial, no_match, filter_of, papers_filter_of, alternate_live, neither}

sequence_lawful : (f : ℕ) → lawful sequence sequence_live sequence_pick f ≡ true
unfolding lawful both implies all_b all_k same_k
sequence_lawful zero = refl
sequence_lawful (suc f) = refl

pub sequence_laws : Lawful sequence sequence_live sequence_pick
sequence_laws = laws _ _ _ sequence_lawful

alternate_lawful : (f : ℕ) → lawful alternate alternate_live alternate_pick f ≡ true
unfolding lawful both implies all_b all_k same_k
alternate_lawful zero = refl
alternate_lawful (suc zero) = refl
alternate_lawful (suc (suc f)) = refl

pub alternate_laws : Lawful alternate alternate_live alternate_pick
alternate_laws = laws _ _ _ alternate_lawful

matching_lawful : (f : ℕ) → lawful matching matching_live matching_pick f ≡ true
unfolding lawful both implies all_b all_k same_k
matching_lawful zero = refl
matching_lawful (suc zero) = refl
matching_lawful (suc (suc f)) = refl

pub matching_laws : Lawful matching matching_live matching_pick
matching_laws = laws _ _ _ matching_lawful

-- Where neither "none" nor "all" holds of a machine, 01's filters are the papers'. (Alternate differs in states above 1, which neither gives.)
pub sequence_bare : (k : MoveKind) (φ : Facts) (f : ℕ) → sequence k neither f ≡ epsilon_sequencing k φ f
sequence_bare lone1 φ zero = refl
sequence_bare lone1 φ (suc f) = refl
sequence_bare lone2 φ f = refl
sequence_bare bothEpsilon φ f = refl
sequence_bare aLabel φ f = refl

pub alternate_bare : (k : MoveKind) (φ : Facts) (f : ℕ) → f ≤ 1 → alternate k neither f ≡ epsilon_sequencing_mirrored k φ f
alternate_bare lone1 φ f h = refl
alternate_bare lone2 φ zero h = refl
alternate_bare lone2 φ (suc zero) h = refl
alternate_bare lone2 φ (suc (suc f)) h = absurd (omega arith)
alternate_bare bothEpsilon φ f h = refl
alternate_bare aLabel φ f h = refl

pub matching_bare : (k : MoveKind) (φ : Facts) (f : ℕ) → matching k neither f ≡ epsilon_matching k φ f
matching_bare lone1 φ zero = refl
matching_bare lone1 φ (suc zero) = refl
matching_bare lone1 φ (suc (suc f)) = refl
matching_bare lone2 φ zero = refl
matching_bare lone2 φ (suc zero) = refl
matching_bare lone2 φ (suc (suc f)) = refl
matching_bare bothEpsilon φ zero = refl
matching_bare bothEpsilon φ (suc f) = refl
matching_bare aLabel φ f = refl

-- 02's three, which look at neither, are OpenFst's, cell by cell.
pub null_cells : (k : MoveKind) (φ : Facts) (f : ℕ) → null k φ f ≡ null_filter k φ f
null_cells lone1 φ f = refl
null_cells lone2 φ f = refl
null_cells bothEpsilon φ f = refl
null_cells aLabel φ f = refl

pub trivial_cells : (k : MoveKind) (φ : Facts) (f : ℕ) → trivial k φ f ≡ trivial_filter k φ f
trivial_cells lone1 φ f = refl
trivial_cells lone2 φ f = refl
trivial_cells bothEpsilon φ f = refl
trivial_cells aLabel φ f = refl

pub no_match_cells : (k : MoveKind) (φ : Facts) (f : ℕ) → no_match k φ f ≡ no_match_filter k φ f
no_match_cells lone1 φ f = refl
no_match_cells lone2 φ f = refl
no_match_cells bothEpsilon φ f = refl
no_match_cells aLabel φ f = refl

-- So each number stands for the same filter in both layers: of alternate, in the states that it gives.
pub papers_bare : (n : ℕ) (k : MoveKind) (φ : Facts) (f : ℕ) → (n ≡ 1 → f ≤ 1) → filter_of n k neither f ≡ papers_filter_of n k φ f
papers_bare zero k φ f h = sequence_bare k φ f
papers_bare (suc zero) k φ f h = alternate_bare k φ f (h refl)
papers_bare (suc (suc zero)) k φ f h = matching_bare k φ f
papers_bare (suc (suc (suc zero))) k φ f h = null_cells k neither f
papers_bare (suc (suc (suc (suc zero)))) k φ f h = trivial_cells k neither f
papers_bare (suc (suc (suc (suc (suc n))))) k φ f h = no_match_cells k neither f

-- "a label": each filter keeps it, with f = 0
pub label_kept : (n : ℕ) (φ : Facts) (f : ℕ) → filter_of n aLabel φ f ≡ Some 0
label_kept zero φ f = refl
label_kept (suc zero) φ f = refl
label_kept (suc (suc zero)) φ f = refl
label_kept (suc (suc (suc zero))) φ f = refl
label_kept (suc (suc (suc (suc zero)))) φ f = refl
label_kept (suc (suc (suc (suc (suc n))))) φ f = refl
