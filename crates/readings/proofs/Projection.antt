-- The inner labels of a composed path's pair agree, by any relation that says which labels of two states' transitions meet.
use mathlib.Core.List.{List, [], ◌∷◌, ◌++◌, map, flat_map}
use Prim.Native.Nat.{ℕ}
use Rattle.lists.specs.Lists.{keep_if}
use Rattle.papers.specs.Weight.{Semiring}
use Rattle.papers.specs.Filter.{MoveKind}
use Rattle.papers.specs.Composition.{Edge, Composed, Triple, Edges, Enabled, reached}
use Rattle.papers.specs.Paths.{word, taken, path1, path2, Agree, Matching, AcceptingMoves}
use Rattle.papers.proofs.Forms.{by_form}
use Rattle.readings.specs.Readings.{MeetBy}
use Rattle.papers.proofs.PathLaws.{word_ε, word_label}

-- a move before two paths that match
module _ (R : ℕ → ℕ → Type 0) (C : Composed) (meet : MeetBy R C) (q1 q2 : ℕ) (p1 p2 : List ℕ) (h : Matching R C.first C.second p1 p2) where
  abbrev o : ℕ → ℕ
  o = C.first.output

  abbrev i : ℕ → ℕ
  i = C.second.input

  abbrev Extended : MoveKind → Edge → Edge → Type 0
  Extended k e1 e2 = Agree R (word (map o (taken e1 ++ p1))) (word (map i (taken e2 ++ p2)))

  matching_step : (k : MoveKind) (m : Edges) → Enabled C q1 q2 k m → Extended k m.first m.second
  matching_step k m en =
      by_form C.first C.second o i C.meets q1 q2 Extended
      (λ t l e. rw (word_ε (o t) (map o p1) e) h)
      (λ u l e. rw (word_ε (i u) (map i p2) e) h)
      (λ t u l l' e d. rw (word_ε (o t) (map o p1) e, word_ε (i u) (map i p2) d) h)
      (λ t u l l' n n' r. rw (word_label (o t) (map o p1) n, word_label (i u) (map i p2) n') ((meet q1 q2 t u l l' n n').0 r, h))
      k m.first m.second en

module _ (K : Semiring) (value : ℕ → K.Element) where
  pub matching : (R : ℕ → ℕ → Type 0) (C : Composed) → MeetBy R C → (s : Triple) (ms : List Edges) → AcceptingMoves K value C s ms
      → Matching R C.first C.second (path1 ms) (path2 ms)
  unfolding flat_map word keep_if
  matching R C meet s [] h = tt
  matching R C meet s (m ∷ ms) h =
      matching_step R C meet s.s1 s.s2 (path1 ms) (path2 ms) (matching R C meet (reached C s m h.0) ms h.2) h.1.0 m h.1.1
