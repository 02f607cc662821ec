-- What holds of null, trivial and no-match over the store (specs/Further): the store's accepting paths are those of the papers' composition (StorePaths), and these are read by
-- FurtherFilters.
use mathlib.Core.Path.{◌≡◌, sym, subst}
use mathlib.Core.List.{List}
use mathlib.Core.Logic.{◌↔◌, inl}
use Prim.Native.Nat.{ℕ}
use Rattle.papers.specs.Weight.{semiring}
use Rattle.papers.specs.Filter.{Filter, epsilon_sequencing}
use Rattle.papers.specs.Composition.{Edges}
use Rattle.papers.specs.Pick.{sequence_pick}
use Rattle.papers.specs.Paths.{AcceptingRun}
use Rattle.papers.specs.Sums.{weight_of_pair}
use Rattle.words.specs.Labels.{good}
use Rattle.words.specs.Sides.{Side}
use Rattle.words.specs.Filters.{trivial, no_match, filter_of}
use Rattle.words.specs.Steps.{Composition}
use Rattle.words.specs.Settings.{Settings, Lent, composition_of}
use Rattle.words.specs.AsPapers.{exact}
use Rattle.calls.specs.Checks.{side_for}
use Rattle.calls.specs.Sequences.{World}
use Rattle.readings.specs.Correspondence.{OneToOne, Onto}
use Rattle.readings.specs.Merge.{merge}
use Rattle.readings.specs.Readings.{plain_composed, pair_of, Pair}
use Rattle.readings.specs.Worlds.{Sound}
use Rattle.readings.specs.StorePaths.{Settled, machine1, machine2, records_of_pair, records_weight, Paths}
use Rattle.readings.specs.Further.{OneEpsilonFree, NoneLost, EqualPair, together, StepByStep, Further, FurtherClaim}
use Rattle.readings.proofs.Correspondences.{chained, chained_onto, exchanged, exchanged_onto, same_least}
use Rattle.readings.proofs.FurtherFilters.{Wider, trivial_wider, no_match_wider, none_lost, once_where_free, StepPair, step_by_step}
use Rattle.readings.proofs.Letters.{write_own}
use Rattle.readings.proofs.StorePaths.{pair_weighs, agreeing_plain, no_sigmas, plain_records, weigh_both, read_first, write_second}
use Rattle.readings.proofs.WordPaths.{of_words, by_words}
use Rattle.readings.proofs.Demand2.{after_calls}

-- the pairs of null, in words
equal_pair : (c : Composition) (p : List ℕ × List ℕ) → StepPair c.kind (exact c.kind) (machine1 c) (machine2 c) p ↔ EqualPair c p
equal_pair c p = (λ h. record { first = h.0; second = h.1; inner = h.2 }, λ h. (h.first, h.second, h.inner))

-- the accepting paths of the papers' composition of the two machines with a filter
abbrev Runs : Composition → Filter → List Edges → Type 0
Runs c F = AcceptingRun (semiring c.kind) (exact c.kind) (plain_composed (machine1 c) (machine2 c) F)

-- every pair that matches is listed, and once where a machine has no epsilons
pub record AllListed (c : Composition) (F : Filter) : Type 0 where
  pub listed : Onto (Runs c F) (Pair (semiring c.kind) (exact c.kind) ◌≡◌ (plain_composed (machine1 c) (machine2 c) F)) pair_of (λ p. merge sequence_pick (machine1 c) (machine2 c) p.0 p.1)
  pub once : OneEpsilonFree c
      → OneToOne (Runs c F) (Pair (semiring c.kind) (exact c.kind) ◌≡◌ (plain_composed (machine1 c) (machine2 c) F)) pair_of (λ p. merge sequence_pick (machine1 c) (machine2 c) p.0 p.1)

all_listed : (c : Composition) (F : Filter) → Wider epsilon_sequencing F → AllListed c F
all_listed c F v = record {
  listed = none_lost c.kind (exact c.kind) (machine1 c) (machine2 c) F v;
  once = λ n. once_where_free c.kind (exact c.kind) (machine1 c) (machine2 c) n F v;
}

-- the steps of both machines together
abbrev Stepped : Composition → Filter → Type 0
Stepped c F = OneToOne (Runs c F) (StepPair c.kind (exact c.kind) (machine1 c) (machine2 c)) pair_of (λ p. together p.0 p.1)

module _ (s : Settings) (l : Lent) (side : Side) (rule : side_for s l ≡ good side) (w : World) (S : Sound l (composition_of s l side) w) (N : Settled s l w) where
  abbrev c : Composition
  c = composition_of s l side

  abbrev weight : List ℕ × List ℕ → (semiring c.kind).Element
  weight = weight_of_pair (semiring c.kind) (exact c.kind) (machine1 c) (machine2 c)

  none_lost_there : AllListed c (filter_of s.filter) → NoneLost l c w
  none_lost_there o =
      let B = weigh_both s l side rule w S N.read (no_sigmas s l side w N) in
      let read = read_first s l side rule w S N.read (no_sigmas s l side w N) in
      let written = write_second s l side rule w S N.read (no_sigmas s l side w N) in
      let wrote = write_own l c w (inl N.sigma2) written in
      let p = chained_onto (plain_records s l side w N rule S) (exchanged_onto (agreeing_plain c N.sigma2) o.listed) in
      let once : OneEpsilonFree c → Paths l c sequence_pick w
      = λ n. record { paths = chained (plain_records s l side w N rule S) (exchanged (agreeing_plain c N.sigma2) (o.once n)); weights = B; inputs = read; outputs = written } in
      record {
        paths = p;
        weights = B;
        inputs = read;
        outputs = wrote;
        least = λ e. same_least (semiring c.kind) (records_weight c.kind l w 0) weight e p (pair_weighs l c w S B);
        least_of_words = λ x y e. same_least (semiring c.kind) (records_weight c.kind l w 0) weight e
            (of_words l c w N.sigma2 (records_of_pair c sequence_pick w) p read wrote x y) (λ rs h. pair_weighs l c w S B rs h.0);
        once = once;
        totals = λ n. by_words l c sequence_pick w N.sigma2 S (once n);
      }

  stepped : Stepped c (filter_of s.filter) → StepByStep l c w
  stepped o = record {
    paths = chained (plain_records s l side w N rule S) (exchanged (equal_pair c) o);
    weights = weigh_both s l side rule w S N.read (no_sigmas s l side w N);
    inputs = read_first s l side rule w S N.read (no_sigmas s l side w N);
    outputs = write_own l c w (inl N.sigma2) (write_second s l side rule w S N.read (no_sigmas s l side w N));
  }

-- in every sound world
pub further : (s : Settings) (l : Lent) (side : Side) → side_for s l ≡ good side → (w : World) → Sound l (composition_of s l side) w → Further s l (composition_of s l side) w
further s l side rule w S =
    let c = composition_of s l side in
    record {
      null = λ e N. stepped s l side rule w S N (subst (λ n. Stepped c (filter_of n)) (sym e) (step_by_step c.kind (exact c.kind) (machine1 c) (machine2 c)));
      trivial = λ e N. none_lost_there s l side rule w S N (subst (λ n. AllListed c (filter_of n)) (sym e) (all_listed c trivial trivial_wider));
      no_match_lem = λ e N. none_lost_there s l side rule w S N (subst (λ n. AllListed c (filter_of n)) (sym e) (all_listed c no_match no_match_wider));
    }

pub further_claim : FurtherClaim
further_claim = after_calls Further (λ s l side rule w k. further s l side rule w k.sound)
