-- The reading theorem for 01's three filters and for the papers' three, of any two machines, under both kinds of weight; and what the implementations' "none" and "all" change:
-- no accepting path. 02's three filters are OpenFst's.
use mathlib.Core.Path.{◌≡◌, subst}
use mathlib.Core.Bool.{Bool}
use Prim.Native.Nat.{ℕ, zero, suc, ◌≤◌}
use native.Mathlib.Omega.{arith}
use Rattle.papers.specs.Machine.{Machine}
use Rattle.papers.specs.Weight.{Kind, semiring}
use Rattle.papers.specs.Filter.{MoveKind, Facts, Filter, epsilon_sequencing, epsilon_sequencing_mirrored, epsilon_matching}
use Rattle.papers.specs.Composition.{Composed}
use Rattle.papers.specs.Paths.{path1, path2, AcceptingRun}
use Rattle.papers.specs.Pick.{sequence_pick, alternate_pick, matching_pick, sequence_live, mirrored_live, matching_live}
use Rattle.papers.specs.Laws.{Lawful}
use Rattle.papers.proofs.SemiringLaws.{semiring_laws}
use Rattle.papers.proofs.PaperFilters.{sequencing_laws, mirrored_laws, epsilon_matching_laws}
use Rattle.words.specs.Filters.{sequence, alternate, matching, filter_of, papers_filter_of, alternate_live}
use Rattle.words.proofs.TableLaws.{sequence_laws, alternate_laws, matching_laws, null_cells, trivial_cells, no_match_cells}
use Rattle.readings.specs.Correspondence.{OneToOne}
use Rattle.readings.specs.Merge.{merge}
use Rattle.readings.specs.Readings.{plain_composed, ReadingsOf, filtered_by, SamePaths}
use Rattle.readings.specs.Listed.{pick_of}
use Rattle.readings.proofs.Correspondences.{turned, chained}
use Rattle.readings.proofs.Theorem.{readings}
use Rattle.readings.proofs.Swap.{same_by_pick}

-- 01's three obey the laws
pub lawful_of : (n : ℕ) → n ≤ 2 → (live : ℕ → Bool → Bool → Bool) × Lawful (filter_of n) live (pick_of n)
lawful_of zero h = (sequence_live, sequence_laws)
lawful_of (suc zero) h = (alternate_live, alternate_laws)
lawful_of (suc (suc zero)) h = (matching_live, matching_laws)
lawful_of (suc (suc (suc m))) h = absurd (omega (arith, h))

-- "inner labels (outputs of the first, inputs of the second) agree"
equal_readings : (k : Kind) (value : ℕ → (semiring k).Element) (A B : Machine) (filter : Filter) (live : ℕ → Bool → Bool → Bool) (pick : Bool → Bool → MoveKind)
    → Lawful filter live pick → ReadingsOf k value A B filter pick
equal_readings k value A B filter live pick L = readings k value ◌≡◌ (plain_composed A B filter) (λ q1 q2 t u l l' n n'. (λ e. e, λ e. e)) live pick L

module _ (k : Kind) (value : ℕ → (semiring k).Element) (A B : Machine) where
  -- 01's three
  pub sequence_readings : ReadingsOf k value A B sequence sequence_pick
  sequence_readings = equal_readings k value A B sequence sequence_live sequence_pick sequence_laws

  pub alternate_readings : ReadingsOf k value A B alternate alternate_pick
  alternate_readings = equal_readings k value A B alternate alternate_live alternate_pick alternate_laws

  pub match_readings : ReadingsOf k value A B matching matching_pick
  match_readings = equal_readings k value A B matching matching_live matching_pick matching_laws

  -- the papers' three
  pub epsilon_sequencing_readings : ReadingsOf k value A B epsilon_sequencing sequence_pick
  epsilon_sequencing_readings = equal_readings k value A B epsilon_sequencing sequence_live sequence_pick sequencing_laws

  pub epsilon_sequencing_mirrored_readings : ReadingsOf k value A B epsilon_sequencing_mirrored alternate_pick
  epsilon_sequencing_mirrored_readings = equal_readings k value A B epsilon_sequencing_mirrored mirrored_live alternate_pick mirrored_laws

  pub epsilon_matching_readings : ReadingsOf k value A B epsilon_matching matching_pick
  epsilon_matching_readings = equal_readings k value A B epsilon_matching matching_live matching_pick epsilon_matching_laws

module _ (k : Kind) (value : ℕ → (semiring k).Element) (A B : Machine) where
  -- Of any two of these filters: their accepting paths correspond one to one, each with the one that has the same pair.
  pub any_two : (F G : Filter) (pick pick' : Bool → Bool → MoveKind) → ReadingsOf k value A B F pick → ReadingsOf k value A B G pick'
      → OneToOne (AcceptingRun (semiring k) value (plain_composed A B F)) (AcceptingRun (semiring k) value (plain_composed A B G))
      (λ ms. merge pick' A B (path1 ms) (path2 ms)) (λ ms. merge pick A B (path1 ms) (path2 ms))
  any_two F G pick pick' r r' = chained r.paths (turned r'.paths)

-- 2b, 3c: "none" and "all" change no accepting path, whichever labels meet, sigma among them. 01's filters, which look at them, accept just what the papers' accept.
module _ (k : Kind) (value : ℕ → (semiring k).Element) (C : Composed) where
  sequence_as_papers : SamePaths (semiring k) value (filtered_by sequence C) (filtered_by epsilon_sequencing C)
  sequence_as_papers = same_by_pick (semiring k) (semiring_laws k) value C sequence_pick sequence epsilon_sequencing sequence_live sequence_live sequence_laws sequencing_laws

  pub alternate_as_papers : SamePaths (semiring k) value (filtered_by alternate C) (filtered_by epsilon_sequencing_mirrored C)
  alternate_as_papers = same_by_pick (semiring k) (semiring_laws k) value C alternate_pick alternate epsilon_sequencing_mirrored alternate_live mirrored_live alternate_laws mirrored_laws

  match_as_papers : SamePaths (semiring k) value (filtered_by matching C) (filtered_by epsilon_matching C)
  match_as_papers = same_by_pick (semiring k) (semiring_laws k) value C matching_pick matching epsilon_matching matching_live matching_live matching_laws epsilon_matching_laws

  -- two filters that are equal cell by cell
  same_cells : (F G : Filter) → ((k : MoveKind) (φ : Facts) (f : ℕ) → F k φ f ≡ G k φ f) → SamePaths (semiring k) value (filtered_by F C) (filtered_by G C)
  same_cells F G e = subst (λ H. SamePaths (semiring k) value (filtered_by F C) (filtered_by H C)) (λ i k φ f. e k φ f i) (λ ms. (λ h. h, λ h. h), λ q1 q2 ms. (λ h. h, λ h. h))

  -- whichever of the six
  pub filter_as_papers : (n : ℕ) → SamePaths (semiring k) value (filtered_by (filter_of n) C) (filtered_by (papers_filter_of n) C)
  filter_as_papers zero = sequence_as_papers
  filter_as_papers (suc zero) = alternate_as_papers
  filter_as_papers (suc (suc zero)) = match_as_papers
  filter_as_papers (suc (suc (suc zero))) = same_cells _ _ null_cells
  filter_as_papers (suc (suc (suc (suc zero)))) = same_cells _ _ trivial_cells
  filter_as_papers (suc (suc (suc (suc (suc n))))) = same_cells _ _ no_match_cells
