-- The reading theorem (demand 3c, of the papers' composition; 2b): of any two machines, with any filter that obeys the laws. Nothing is asked of the machines: no bound, no
-- sorted list, no list without doubles, no start.
use mathlib.Core.Path.{◌≡◌, refl, sym, ◌∙◌, subst}
use mathlib.Core.Bool.{Bool}
use mathlib.Core.List.{List}
use Rattle.std.specs.Prelude.{None}
use Rattle.std.proofs.lemmas.Option.{none-some}
use Prim.Native.Nat.{ℕ, ◌+◌}
use native.Mathlib.Omega.{arith}
use lib.ListN.{length}
use Rattle.papers.specs.Weight.{Semiring, CommutativeSemiring, Kind, semiring}
use Rattle.papers.specs.Filter.{MoveKind}
use Rattle.papers.specs.Composition.{Composed, Edges}
use Rattle.papers.specs.Paths.{path1, path2, AcceptingMoves, AcceptingRun}
use Rattle.papers.specs.Laws.{Lawful}
use Rattle.papers.proofs.SemiringLaws.{semiring_laws}
use Rattle.papers.proofs.PathLaws.{accepting1, accepting2, input_word_lem, output_word_lem, moves_weigh}
use Rattle.readings.specs.Correspondence.{OneToOne}
use Rattle.readings.specs.Merge.{merge}
use Rattle.readings.specs.Readings.{MeetBy, at, pair_of, PairFrom, Pair, Readings}
use Rattle.readings.proofs.Projection.{matching}
use Rattle.readings.proofs.Rebuilt.{rebuilt}
use Rattle.readings.proofs.Made.{made}

module _ (K : Semiring) (laws : CommutativeSemiring K) (value : ℕ → K.Element) (R : ℕ → ℕ → Type 0) (C : Composed) (meet : MeetBy R C)
    (live : ℕ → Bool → Bool → Bool) (pick : Bool → Bool → MoveKind) (L : Lawful C.filter live pick) where
  abbrev joined : List ℕ × List ℕ → List Edges
  joined p = merge pick C.first C.second p.0 p.1

  from_states : (q1 q2 : ℕ) → OneToOne (AcceptingMoves K value C (at q1 q2)) (PairFrom K value R C q1 q2) pair_of joined
  from_states q1 q2 = record {
    goes = λ ms h. (accepting1 K laws value C (at q1 q2) ms h, accepting2 K laws value C (at q1 q2) ms h, matching K value R C meet (at q1 q2) ms h);
    comes = λ p h. (one p h).0;
    from_to = λ ms h. rebuilt C live pick K value laws L (length (path1 ms) + length (path2 ms)) (at q1 q2) ms (omega arith) h;
    to_from = λ p h. let r = one p h in λ i. (r.1 i, r.2 i);
  }
    where
      one : (p : List ℕ × List ℕ) → PairFrom K value R C q1 q2 p → AcceptingMoves K value C (at q1 q2) (joined p) × (path1 (joined p) ≡ p.0) × (path2 (joined p) ≡ p.1)
      one p h =
          made C R meet live pick K value laws L (length p.0 + length p.1) p.0 p.1 (at q1 q2) (omega arith) h.0 h.1 h.2 (L.start _ _)

  -- a run begins in the first filter state
  begun : (ms : List Edges) (h : AcceptingRun K value C ms) → AcceptingMoves K value C (at h.0.s1 h.0.s2) ms
  begun ms h = subst (λ f. AcceptingMoves K value C (record { s1 = h.0.s1; s2 = h.0.s2; f = f }) ms) h.1.2 h.2

  from_starts : OneToOne (AcceptingRun K value C) (Pair K value R C) pair_of joined
  from_starts = record {
    goes = λ ms h. let r = (from_states h.0.s1 h.0.s2).goes ms (begun ms h) in ((h.0.s1, h.1.0, r.0), (h.0.s2, h.1.1, r.1), r.2);
    comes = λ p h. (at h.0.0 h.1.0, (h.0.1, h.1.1, refl), (from_states h.0.0 h.1.0).comes p (h.0.2, h.1.2, h.2));
    from_to = λ ms h. (from_states h.0.s1 h.0.s2).from_to ms (begun ms h);
    to_from = λ p h. (from_states h.0.0 h.1.0).to_from p (h.0.2, h.1.2, h.2);
  }

  pub readings_by_laws : Readings K value R C (merge pick C.first C.second)
  readings_by_laws = record { paths = from_starts; paths_from = from_states; inputs = input_word_lem C; outputs = output_word_lem C; weights = moves_weigh K laws value C }

-- Under cost and under count, whichever weights the machines' numbers stand for.
pub readings : (k : Kind) (value : ℕ → (semiring k).Element) (R : ℕ → ℕ → Type 0) (C : Composed) → MeetBy R C → (live : ℕ → Bool → Bool → Bool) (pick : Bool → Bool → MoveKind)
    → Lawful C.filter live pick → Readings (semiring k) value R C (merge pick C.first C.second)
readings k value R C meet live pick L = readings_by_laws (semiring k) (semiring_laws k) value R C meet live pick L

-- A machine without a start: no pair, and no accepting path of the composition.
module _ (K : Semiring) (value : ℕ → K.Element) (R : ℕ → ℕ → Type 0) (C : Composed) where
  abbrev Nothing : Type 0
  Nothing = ((ms : List Edges) → AcceptingRun K value C ms → ⊥) × ((p : List ℕ × List ℕ) → Pair K value R C p → ⊥)

  pub no_start1 : C.first.start ≡ None → Nothing
  no_start1 e = (λ ms h. none-some _ (sym e ∙ h.1.0), λ p h. none-some _ (sym e ∙ h.0.1))

  pub no_start2 : C.second.start ≡ None → Nothing
  no_start2 e = (λ ms h. none-some _ (sym e ∙ h.1.1), λ p h. none-some _ (sym e ∙ h.1.1))
