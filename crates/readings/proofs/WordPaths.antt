-- Mohri, Pereira and Riley's equation of a store, path by path and as a sum: the correspondence of 3c, for the paths that read x as y, and the sum over the middle words (papers).
use mathlib.Core.Path.{◌≡◌, refl, sym, ◌∙◌, ap}
use mathlib.Core.Bool.{Bool}
use mathlib.Core.List.{List, map}
use mathlib.Core.Logic.Iff
use mathlib.Core.Logic.{◌↔◌, inl}
use Prim.Native.Nat.{ℕ}
use Rattle.papers.specs.Machine.{Machine}
use Rattle.papers.specs.Weight.{semiring}
use Rattle.papers.specs.Filter.{MoveKind}
use Rattle.papers.specs.Paths.{word, Matching}
use Rattle.papers.specs.Sums.{PairOf, weight_of_pair}
use Rattle.papers.proofs.SemiringLaws.{semiring_laws}
use Rattle.papers.proofs.MiddleWords.{over_middle_words}
use Rattle.words.specs.Labels.{no_label}
use Rattle.words.specs.Steps.{Composition}
use Rattle.words.specs.Settings.{Lent}
use Rattle.words.specs.AsPapers.{exact}
use Rattle.calls.specs.Sequences.{World}
use Rattle.readings.specs.Correspondence.{OneToOne, Onto}
use Rattle.readings.specs.Worlds.{Sound}
use Rattle.readings.specs.StorePaths.{AcceptingRecords, machine1, machine2, sigma2, PairsWith, AgreeingPair, pair_of_records, records_of_pair, records_weight, ReadFirst, WriteOwn, Paths}
use Rattle.readings.specs.Follows.{ReadsAs, ByWords}
use Rattle.readings.proofs.Correspondences.{onto, exchanged_onto, same_sum}
use Rattle.readings.proofs.Letters.{agree_unset, write_own}
use Rattle.readings.proofs.StorePaths.{pair_weighs}

-- without sigma, of any correspondence that is onto the agreeing pairs
module _ (l : Lent) (c : Composition) (w : World) (unset : (sigma2 c).label ≡ no_label) (from : List ℕ × List ℕ → List ℕ) (P : Onto (AcceptingRecords l w) (AgreeingPair c) (pair_of_records c w) from)
    (read : ReadFirst l c w) (written : WriteOwn l c w) (x y : List ℕ) where
  abbrev A : Machine
  A = machine1 c

  abbrev B : Machine
  B = machine2 c

  -- an agreeing pair, from x to y
  abbrev Two : List ℕ × List ℕ → Type 0
  Two p = AgreeingPair c p × (word (map A.input p.0) ≡ x) × (word (map B.output p.1) ≡ y)

  -- its middle word is the inner label of both
  by_middle : (p : List ℕ × List ℕ) → Two p ↔ PairOf (semiring c.kind) (exact c.kind) A B x y p
  by_middle p = (
    λ h. (word (map A.output p.0), (h.0.first, h.1, refl), (h.0.second, sym (same.0 h.0.inner), h.2)),
    λ h. (record { first = h.1.0; second = h.2.0; inner = same.1 (h.1.2 ∙ sym h.2.1) }, h.1.1, h.2.2),
  )
    where
      same : Matching (PairsWith (sigma2 c)) A B p.0 p.1 ↔ (word (map A.output p.0) ≡ word (map B.input p.1))
      same = agree_unset (sigma2 c) unset _ _

  -- it is onto the pairs of paths x:z, z:y for the paths that read x as y
  pub of_words : Onto (ReadsAs l w x y) (PairOf (semiring c.kind) (exact c.kind) A B x y) (pair_of_records c w) from
  of_words =
      exchanged_onto by_middle
      (record {
        goes = λ rs h. (P.goes rs h.0, sym (read rs h.0) ∙ h.1, sym (written rs h.0) ∙ h.2);
        comes = λ p h.
            let a = P.comes p h.0 in
            let e = P.to_from p h.0 in (
              a,
              read _ a ∙ ap (λ (q : List ℕ × List ℕ). word (map A.input q.0)) e ∙ h.1,
              written _ a ∙ ap (λ (q : List ℕ × List ℕ). word (map B.output q.1)) e ∙ h.2,
            );
        to_from = λ p h. P.to_from p h.0;
      })

pub by_words : (l : Lent) (c : Composition) (pick : Bool → Bool → MoveKind) (w : World) → (sigma2 c).label ≡ no_label → Sound l c w → Paths l c pick w → (x y : List ℕ) → ByWords l c pick w x y
by_words l c pick w unset S P x y =
    let o = of_words l c w unset (records_of_pair c pick w) (onto P.paths) P.inputs (write_own l c w (inl unset) P.outputs) x y in
    let one : OneToOne (ReadsAs l w x y) (PairOf (semiring c.kind) (exact c.kind) (machine1 c) (machine2 c) x y) (pair_of_records c w) (records_of_pair c pick w)
    = record { goes = o.goes; comes = o.comes; from_to = λ rs h. P.paths.from_to rs h.0; to_from = o.to_from } in
    let weighs : (rs : List ℕ) → ReadsAs l w x y rs
    → records_weight c.kind l w 0 rs ≡ weight_of_pair (semiring c.kind) (exact c.kind) (machine1 c) (machine2 c) (pair_of_records c w rs)
    = λ rs h. pair_weighs l c w S P.weights rs h.0 in
    record {
      paths = one;
      weights = weighs;
      sum = λ e. Iff.trans
          (same_sum (semiring c.kind) (semiring_laws c.kind) (records_weight c.kind l w 0) (weight_of_pair (semiring c.kind) (exact c.kind) (machine1 c) (machine2 c)) e one weighs)
          (over_middle_words (semiring c.kind) (semiring_laws c.kind) (exact c.kind) (machine1 c) (machine2 c) x y e);
    }
