-- Two filters that obey the laws with the same `pick` accept the same composed paths, whichever labels meet. Along an accepting path of the one, the picked move is the first one
-- (`picked`), and the other keeps the picked move.
use mathlib.Core.Path.{◌≡◌, refl, sym, ◌∙◌, subst}
use mathlib.Core.Bool.{Bool, true}
use mathlib.Core.List.{List, [], ◌∷◌, flat_map}
use Rattle.std.specs.Prelude.{Some}
use Prim.Native.Nat.{ℕ}
use Rattle.papers.specs.Weight.{Semiring, CommutativeSemiring}
use Rattle.papers.specs.Filter.{MoveKind, Filter, facts_of}
use Rattle.papers.specs.Laws.{then1, then2, Lawful}
use Rattle.papers.specs.Composition.{Composed, Triple, Edges, reached}
use Rattle.papers.specs.Paths.{path1, path2, AcceptingMoves, AcceptingRun}
use Rattle.papers.proofs.PathLaws.{accepting1, accepting2}
use Rattle.readings.specs.Readings.{filtered_by, SamePaths}
use Rattle.readings.proofs.Rebuilt.{path_fits, b1, b2, Live, opens, picked, lives}

module _ (K : Semiring) (laws : CommutativeSemiring K) (value : ℕ → K.Element) (C : Composed) (pick : Bool → Bool → MoveKind) where
  -- from the filter state f of the other filter, if it can take the two paths to their ends
  swapped : (F G : Filter) (liveF liveG : ℕ → Bool → Bool → Bool) → Lawful F liveF pick → Lawful G liveG pick
      → (s : Triple) (f : ℕ) (ms : List Edges) → AcceptingMoves K value (filtered_by F C) s ms → Live (filtered_by G C) liveG pick f (path1 ms) (path2 ms)
      → AcceptingMoves K value (filtered_by G C) (record { s1 = s.s1; s2 = s.s2; f = f }) ms
  unfolding flat_map
  swapped F G liveF liveG LF LG s f [] h v = h
  swapped F G liveF liveG LF LG s f (m ∷ ms) h v =
      let D = filtered_by F C in
      let e = (picked D liveF pick K value laws LF s m ms h (lives D liveF pick K value laws LF (reached D s m h.0) ms h.2)).1 in
      let o = opens (filtered_by G C) liveG pick s.s1 s.s2 (path1 ms) (path2 ms) h.1.0 m h.1.1 in
      let x = b1 (filtered_by G C) liveG pick (path1 (m ∷ ms)) in
      let y = b2 (filtered_by G C) liveG pick (path2 (m ∷ ms)) in
      let φ = facts_of C.first C.second s.s1 s.s2 in
      let w = LG.forwards φ f x y
      (path_fits K value C.first.output C.first s.s1 (path1 (m ∷ ms)) (accepting1 K laws value D s (m ∷ ms) h))
      (path_fits K value C.second.input C.second s.s2 (path2 (m ∷ ms)) (accepting2 K laws value D s (m ∷ ms) h)) v in
      let kept : G h.1.0 φ f ≡ Some w.0 = subst (λ z. G z φ f ≡ Some w.0) e w.1 in
      let lv = subst (λ z. liveG w.0 (then1 z x (b1 (filtered_by G C) liveG pick (path1 ms))) (then2 z y (b2 (filtered_by G C) liveG pick (path2 ms))) ≡ true) e (w.2 _ _) in
      (w.0, (h.1.0, h.1.1, kept), swapped F G liveF liveG LF LG (reached D s m h.0) w.0 ms h.2 (sym (o.1 w.0) ∙ lv))

  module _ (F G : Filter) (liveF liveG : ℕ → Bool → Bool → Bool) (LF : Lawful F liveF pick) (LG : Lawful G liveG pick) where
    -- in the first filter state every two paths can be taken to their ends
    accepts : (s : Triple) → s.f ≡ 0 → (ms : List Edges) → AcceptingMoves K value (filtered_by F C) s ms → AcceptingMoves K value (filtered_by G C) s ms
    accepts s e ms h = swapped F G liveF liveG LF LG s s.f ms h (subst (λ (f : ℕ). Live (filtered_by G C) liveG pick f (path1 ms) (path2 ms)) (sym e) (LG.start _ _))

    runs : (ms : List Edges) → AcceptingRun K value (filtered_by F C) ms → AcceptingRun K value (filtered_by G C) ms
    runs ms h = (h.0, h.1, accepts h.0 h.1.2 ms h.2)

  pub same_by_pick : (F G : Filter) (liveF liveG : ℕ → Bool → Bool → Bool) → Lawful F liveF pick → Lawful G liveG pick → SamePaths K value (filtered_by F C) (filtered_by G C)
  same_by_pick F G liveF liveG LF LG = (
    λ ms. (runs F G liveF liveG LF LG ms, runs G F liveG liveF LG LF ms),
    λ q1 q2 ms. (accepts F G liveF liveG LF LG _ refl ms, accepts G F liveG liveF LG LF _ refl ms),
  )
