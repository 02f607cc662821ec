-- Null, trivial and no-match, of the papers' composition of any two machines. Trivial and no-match keep what epsilon-sequencing keeps, so that no pair of paths that match is
-- without a composed path; where one machine has no ε on its inner side, epsilon-sequencing keeps all. Under null both machines move at every step.
use mathlib.Core.Path.{◌≡◌, refl, sym, ◌∙◌, ap, ap₂, subst}
use mathlib.Core.Bool.{Bool, true, false}
use mathlib.Core.List.Memᴰ
use mathlib.Core.List.Memᴰ.{head as here}
use mathlib.Core.List.{List, [], ◌∷◌, map, flat_map, Memᴰ, nil≢cons, head-eq_of_cons-eq, tail-eq_of_cons-eq}
use mathlib.Core.Logic.{◌⊎◌, ⊎_elim}
use Rattle.std.specs.Prelude.{Some}
use Rattle.std.proofs.lemmas.Option.{none-some}
use Prim.Native.Nat.{ℕ}
use lib.Dec.{eqb}
use borrow.Author.Tests.{eqb-true, eqb-false}
use Rattle.papers.specs.Machine.{ε, Machine}
use Rattle.papers.specs.Weight.{Kind, semiring}
use Rattle.papers.specs.Filter.{MoveKind, lone1, lone2, bothEpsilon, aLabel, Facts, Filter, epsilon_sequencing}
use Rattle.papers.specs.Composition.{Edge, along, equal, Composed, Triple, Edges, KeptMove, reached}
use Rattle.papers.specs.Paths.{taken, path1, path2, Accepting, AcceptingPath, AcceptingMoves, AcceptingRun}
use Rattle.papers.specs.Pick.{sequence_pick}
use Rattle.papers.proofs.SemiringLaws.{semiring_laws}
use Rattle.papers.proofs.Forms.{by_form, formε, formx}
use Rattle.papers.proofs.PathLaws.{ends_both, matching, run_paths}
use Rattle.words.specs.Filters.{null, trivial, no_match}
use Rattle.readings.specs.Correspondence.{OneToOne, Onto}
use Rattle.readings.specs.Merge.{move, merge}
use Rattle.readings.specs.Readings.{plain_composed, at, pair_of, Pair}
use Rattle.readings.specs.Further.{EpsilonFree, together}
use Rattle.readings.proofs.Filters.{epsilon_sequencing_readings}

-- what F keeps, G keeps from every filter state, with the next filter state 0
abbrev pub Wider : Filter → Filter → Type 0
Wider F G = (k : MoveKind) (φ : Facts) (f g h : ℕ) → F k φ f ≡ Some g → G k φ h ≡ Some 0

pub trivial_wider : Wider epsilon_sequencing trivial
trivial_wider lone1 φ f g h e = refl
trivial_wider lone2 φ f g h e = refl
trivial_wider bothEpsilon φ f g h e = refl
trivial_wider aLabel φ f g h e = refl

pub no_match_wider : Wider epsilon_sequencing no_match
no_match_wider lone1 φ f g h e = refl
no_match_wider lone2 φ f g h e = refl
no_match_wider bothEpsilon φ f g h e = absurd (none-some _ e)
no_match_wider aLabel φ f g h e = refl

module _ (k : Kind) (value : ℕ → (semiring k).Element) (A B : Machine) where
  -- so does it accept what F accepts
  wider_moves : (F G : Filter) → Wider F G → (ms : List Edges) (s : Triple) (f : ℕ) → AcceptingMoves (semiring k) value (plain_composed A B F) s ms
      → AcceptingMoves (semiring k) value (plain_composed A B G) (record { s1 = s.s1; s2 = s.s2; f = f }) ms
  wider_moves F G v [] s f h = h
  wider_moves F G v (m ∷ ms) s f h =
      (0, (h.1.0, h.1.1, v h.1.0 _ s.f h.0 f h.1.2), wider_moves F G v ms (reached (plain_composed A B F) s m h.0) 0 h.2)

  -- the pair of an accepting path matches, and every such pair has the path that epsilon-sequencing leaves
  pub none_lost : (G : Filter) → Wider epsilon_sequencing G
      → Onto (AcceptingRun (semiring k) value (plain_composed A B G)) (Pair (semiring k) value ◌≡◌ (plain_composed A B G)) pair_of (λ p. merge sequence_pick A B p.0 p.1)
  none_lost G v =
      let C = plain_composed A B G in
      let r = (epsilon_sequencing_readings k value A B).paths in
      record {
        goes = λ ms h.
            let p = run_paths (semiring k) (semiring_laws k) value C ms h in
            (p.0, p.1, matching (semiring k) (semiring_laws k) value ◌≡◌ C (λ q1 q2 x y e. e) h.0 ms h.2);
        comes = λ p h. let a = r.comes p h in (a.0, a.1, wider_moves epsilon_sequencing G v (merge sequence_pick A B p.0 p.1) a.0 a.0.f a.2);
        to_from = r.to_from;
      }

  -- the same the other way round: epsilon-sequencing accepts what any filter accepts, from every filter state, where the path of T1 has no ε on its inner side,
  narrow1 : (G : Filter) (ms : List Edges) (s : Triple) (f : ℕ) → EpsilonFree A.output (path1 ms) → AcceptingMoves (semiring k) value (plain_composed A B G) s ms
      → AcceptingMoves (semiring k) value (plain_composed A B epsilon_sequencing) (record { s1 = s.s1; s2 = s.s2; f = f }) ms
  unfolding flat_map
  narrow1 G [] s f n h = h
  narrow1 G (m ∷ ms) s f n h =
      let r = by_form A B A.output B.input equal s.s1 s.s2 (λ k e1 e2. EpsilonFree A.output (taken e1) → (φ : Facts) → (g : ℕ) × (epsilon_sequencing k φ f ≡ Some g))
      (λ t i e n φ. absurd (n t (here refl) e))
      (λ u i e n φ. (1, refl))
      (λ t u i j e d n φ. absurd (n t (here refl) e))
      (λ t u i j x y e n φ. (0, refl))
      h.1.0 m.first m.second h.1.1 (λ t i. n t (Memᴰ.append_left (path1 ms) i)) _ in
      (r.0, (h.1.0, h.1.1, r.1), narrow1 G ms (reached (plain_composed A B G) s m h.0) r.0 (λ t i. n t (Memᴰ.append_right (taken m.first) i)) h.2)

  -- and from 0, where that of T2 has none
  narrow2 : (G : Filter) (ms : List Edges) (s : Triple) → EpsilonFree B.input (path2 ms) → AcceptingMoves (semiring k) value (plain_composed A B G) s ms
      → AcceptingMoves (semiring k) value (plain_composed A B epsilon_sequencing) (at s.s1 s.s2) ms
  unfolding flat_map
  narrow2 G [] s n h = h
  narrow2 G (m ∷ ms) s n h =
      let r = by_form A B A.output B.input equal s.s1 s.s2 (λ k e1 e2. EpsilonFree B.input (taken e2) → (φ : Facts) → epsilon_sequencing k φ 0 ≡ Some 0)
      (λ t i e n φ. refl)
      (λ u i e n φ. absurd (n u (here refl) e))
      (λ t u i j e d n φ. absurd (n u (here refl) d))
      (λ t u i j x y e n φ. refl)
      h.1.0 m.first m.second h.1.1 (λ t i. n t (Memᴰ.append_left (path2 ms) i)) _ in
      (0, (h.1.0, h.1.1, r), narrow2 G ms (reached (plain_composed A B G) s m h.0) (λ t i. n t (Memᴰ.append_right (taken m.second) i)) h.2)

  -- so that each pair has one path, where no path of T1, or none of T2, has one
  pub once_where_free : ((p : List ℕ) → AcceptingPath (semiring k) value A p → EpsilonFree A.output p) ⊎ ((p : List ℕ) → AcceptingPath (semiring k) value B p → EpsilonFree B.input p)
      → (G : Filter) → Wider epsilon_sequencing G
      → OneToOne (AcceptingRun (semiring k) value (plain_composed A B G)) (Pair (semiring k) value ◌≡◌ (plain_composed A B G)) pair_of (λ p. merge sequence_pick A B p.0 p.1)
  once_where_free free G v =
      let o = none_lost G v in
      record { goes = o.goes; comes = o.comes; from_to = λ ms h. (epsilon_sequencing_readings k value A B).paths.from_to ms (narrow ms h); to_from = o.to_from }
    where
      narrow : (ms : List Edges) → AcceptingRun (semiring k) value (plain_composed A B G) ms → AcceptingRun (semiring k) value (plain_composed A B epsilon_sequencing) ms
      narrow ms h =
          let p = run_paths (semiring k) (semiring_laws k) value (plain_composed A B G) ms h in
          ⊎_elim (λ n. (h.0, h.1, narrow1 G ms h.0 h.0.f (n (path1 ms) p.0) h.2))
          (λ n. (at h.0.s1 h.0.s2, (h.1.0, h.1.1, refl), narrow2 G ms h.0 (n (path2 ms) p.1) h.2)) free

  abbrev N : Composed
  N = plain_composed A B null

  -- a pair of accepting paths, with inner labels that are equal place by place
  abbrev pub StepPair : List ℕ × List ℕ → Type 0
  StepPair p =
      AcceptingPath (semiring k) value A p.0
      × AcceptingPath (semiring k) value B p.1
      × (map A.output p.0 ≡ map B.input p.1)

  -- a move that null keeps
  abbrev Both : Edge → Edge → Type 0
  Both e1 e2 = (t : ℕ) × (u : ℕ) × (e1 ≡ along t) × (e2 ≡ along u) × (A.output t ≡ B.input u)

  kept_both : (s : Triple) (m : Edges) (g : ℕ) → KeptMove N s m g → Both m.first m.second
  kept_both s m g h =
      by_form A B A.output B.input equal s.s1 s.s2 (λ k e1 e2. (φ : Facts) (f : ℕ) → null k φ f ≡ Some g → Both e1 e2)
      (λ t i e φ f z. absurd (none-some _ z))
      (λ u i e φ f z. absurd (none-some _ z))
      (λ t u i j e d φ f z. (t, u, refl, refl, e ∙ sym d))
      (λ t u i j n o e φ f z. (t, u, refl, refl, e))
      h.0 m.first m.second h.1 _ s.f h.2

  -- the pair of a path of such moves has equal labels, and they are the moves of the pair
  abbrev Built : List Edges → Type 0
  Built ms = (map A.output (path1 ms) ≡ map B.input (path2 ms)) × (together (path1 ms) (path2 ms) ≡ ms)

  built : (ms : List Edges) (s : Triple) → AcceptingMoves (semiring k) value N s ms → Built ms
  unfolding flat_map together
  built [] s h = (refl, refl)
  built (m ∷ ms) s h =
      let r = kept_both s m h.0 h.1 in
      let b = built ms (reached N s m h.0) h.2 in
      let e : m ≡ move (along r.0) (along r.1) = λ i. record { first = r.2 i; second = r.3 i } in
      subst (λ z. Built (z ∷ ms)) (sym e) (ap₂ ◌∷◌ r.4 b.0, ap (λ z. move (along r.0) (along r.1) ∷ z) b.1)

  -- two transitions with one inner label are a move that null keeps
  both_kept : (s : Triple) (t u : ℕ) → Memᴰ t (A.list s.s1) → Memᴰ u (B.list s.s2) → A.output t ≡ B.input u → KeptMove N s (move (along t) (along u)) 0
  both_kept s t u i j e = go (eqb (A.output t) ε) refl
    where
      go : (b : Bool) → eqb (A.output t) ε ≡ b → KeptMove N s (move (along t) (along u)) 0
      go true h = let z = eqb-true _ _ h in (bothEpsilon, formε A B A.output B.input equal s.s1 s.s2 t u i j z (sym e ∙ z), refl)
      go false h =
          let n = eqb-false (A.output t) ε h in
          (aLabel, formx A B A.output B.input equal s.s1 s.s2 t u i j n (λ z. n (e ∙ z)) e, refl)

  -- so two such paths have a composed path
  abbrev Joined : Triple → List ℕ → List ℕ → Type 0
  Joined s p1 p2 = AcceptingMoves (semiring k) value N s (together p1 p2) × (path1 (together p1 p2) ≡ p1) × (path2 (together p1 p2) ≡ p2)

  joined : (p1 p2 : List ℕ) (s : Triple) → Accepting (semiring k) value A s.s1 p1 → Accepting (semiring k) value B s.s2 p2 → map A.output p1 ≡ map B.input p2
      → Joined s p1 p2
  unfolding flat_map together
  joined [] [] s a b e = ((ends_both (semiring k) (semiring_laws k) value N s.s1 s.s2).1 (a, b), refl, refl)
  joined [] (u ∷ p2) s a b e = absurd (nil≢cons e)
  joined (t ∷ p1) [] s a b e = absurd (nil≢cons (sym e))
  joined (t ∷ p1) (u ∷ p2) s a b e =
      let m = move (along t) (along u) in
      let r = joined p1 p2 (reached N s m 0) a.1 b.1 (tail-eq_of_cons-eq e) in
      ((0, both_kept s t u a.0 b.0 (head-eq_of_cons-eq e), r.0), ap (λ z. t ∷ z) r.1, ap (λ z. u ∷ z) r.2)

  pub step_by_step : OneToOne (AcceptingRun (semiring k) value N) StepPair pair_of (λ p. together p.0 p.1)
  step_by_step = record {
    goes = λ ms h. let p = run_paths (semiring k) (semiring_laws k) value N ms h in (p.0, p.1, (built ms h.0 h.2).0);
    comes = λ p h. (begun p h, (h.0.1, h.1.1, refl), (one p h).0);
    from_to = λ ms h. (built ms h.0 h.2).1;
    to_from = λ p h. let r = one p h in λ i. (r.1 i, r.2 i);
  }
    where
      begun : (p : List ℕ × List ℕ) → StepPair p → Triple
      begun p h = at h.0.0 h.1.0

      one : (p : List ℕ × List ℕ) (h : StepPair p) → Joined (begun p h) p.0 p.1
      one p h = joined p.0 p.1 (begun p h) h.0.2 h.1.2 h.2
