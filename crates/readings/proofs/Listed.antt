-- 01's lists hold the kept moves of the papers' composition, each once, in whichever direction each state is walked: so accepting paths as places in 01's lists correspond one to
-- one with the pairs of accepting paths (demand 3c, but for the store).
use mathlib.Core.Path.{◌≡◌, refl, sym, ◌∙◌, ap, subst}
use mathlib.Core.Bool.{true}
use mathlib.Core.List.Memᴰ.{head as here}
use mathlib.Core.List.Memᴰ.{tail as there}
use mathlib.Core.List.{List, [], ◌∷◌, map, Memᴰ as In}
use mathlib.Core.Logic.{◌↔◌}
use Prim.Native.Nat.{ℕ, ◌≤◌}
use Rattle.lists.specs.Lists.{At, Enumerates}
use Rattle.lists.proofs.Places.{at_in, in_at, at_map, of_at_map}
use Rattle.lists.proofs.Once.{distinct_of}
use Rattle.papers.specs.Weight.{semiring}
use Rattle.papers.specs.Composition.{Triple, Edges, KeptMove}
use Rattle.papers.specs.Laws.{Lawful}
use Rattle.words.specs.Labels.{Checked, good, refused}
use Rattle.words.specs.Matches.{MatchType, inputs, outputs}
use Rattle.words.specs.Machines.{well_formed}
use Rattle.words.specs.Sides.{Side, side_of}
use Rattle.words.specs.Filters.{filter_of}
use Rattle.words.specs.Steps.{Composition, Kept, kept_at}
use Rattle.words.specs.Settings.{Settings, Lent, operand1, operand2, composition_of}
use Rattle.words.specs.AsPapers.{exact, edges_of, composed_of, direction_of, WalkedSigma}
use Rattle.words.proofs.CheckedLaws.{good_is}
use Rattle.words.specs.Links.{Composable}
use Rattle.words.proofs.PapersMoves.{outputs1}
use Rattle.words.proofs.PapersOpened.{kept_as_papers, at_direction, directed, sound_of}
use Rattle.readings.specs.Correspondence.{OneToOne}
use Rattle.readings.specs.Merge.{merge}
use Rattle.readings.specs.Readings.{at, pair_of, PairFrom, Readings}
use Rattle.readings.specs.Places.{Lists, moves_at, places_of, AcceptingPlaces}
use Rattle.readings.specs.Listed.{goods, entry_of, listed_at, pick_of}
use Rattle.readings.specs.StorePaths.{machine1, machine2, sigma2, SigmaOn2AtMost, PairsWith}
use Rattle.readings.proofs.Theorem.{readings}
use Rattle.readings.proofs.Filters.{lawful_of}
use Rattle.readings.proofs.Letters.{letter, pairs_meet}
use Rattle.readings.proofs.Placed.{placed_readings}

-- a list without refusals is its values
pub all_good : {A : Type 0} (l : List (Checked A)) → ((n : ℕ) → In (refused n) l → ⊥) → l ≡ map good (goods l)
unfolding goods
all_good [] h = refl
all_good (good a ∷ l) h = ap (λ r. good a ∷ r) (all_good l (λ n i. h n (there i)))
all_good (refused n ∷ l) h = absurd (h n (here refl))

-- where no kept move is refused
module _ (c : Composition) (s : Triple) (all : kept_at c s ≡ map good (goods (kept_at c s))) where
  -- a place of the one list is the place of the other
  pub places : (k : ℕ) (m : Edges) (g : ℕ) → At (listed_at c s) k (m, g) ↔ ((v : Kept) × At (kept_at c s) k (good v) × ((m, g) ≡ entry_of v))
  unfolding listed_at
  places k m g = (
    λ h. let r = of_at_map entry_of (goods (kept_at c s)) k h in (r.0, subst (λ l. At l k (good r.0)) (sym all) (at_map good (goods (kept_at c s)) k r.1), r.2),
    λ h.
        let r = of_at_map good (goods (kept_at c s)) k (subst (λ l. At l k (good h.0)) all h.1) in
        let e : h.0 ≡ r.0 = good_is r.2 in
        subst (At (listed_at c s) k) (sym (h.2 ∙ ap entry_of e)) (at_map entry_of (goods (kept_at c s)) k r.1),
  )

  -- it holds each kept move of the papers once, and nothing else
  pub enumerated : Composable c → (d : MatchType) → direction_of c s ≡ good d → Enumerates (listed_at c s) (λ e. KeptMove (composed_of c) s e.0 e.1)
  enumerated S d e =
      let E = kept_as_papers c S s d e in
      record {
        once =
            distinct_of (listed_at c s)
            (λ j k a u v.
            let x = (places j a.0 a.1).0 u in
            let y = (places k a.0 a.1).0 v in
            E.once j k x.0 y.0 x.1 y.1 (ap (λ (z : Edges × ℕ). z.0) (sym x.2 ∙ y.2)));
        exactly = λ a. (
          λ i.
              let p = in_at i in
              let r = (places p.0 a.0 a.1).0 p.1 in
              subst (λ (z : Edges × ℕ). KeptMove (composed_of c) s z.0 z.1) (sym r.2)
              ((at_direction c s d e (edges_of r.0.move) r.0.next).1 (E.sound r.0 (at_in (kept_at c s) p.0 r.1))),
          λ h.
              let p = in_at (E.complete a.0 a.1 ((at_direction c s d e a.0 a.1).0 h)) in
              at_in (listed_at c s) p.0 ((places p.0 a.0 a.1).1 (_, p.1, λ i. (sym (E.itself a.0) i, a.1))),
        );
      }

-- with sigma on machine 2 alone, or none
module _ (c : Composition) (S : Composable c) (N : SigmaOn2AtMost c) (s : Triple) where
  no_walked : (d : MatchType) → WalkedSigma d c.operand1 c.operand2 s.s1 s.s2 → ⊥
  no_walked inputs w = letter c S N s.s1 w.0 w.1 (sym (ap (λ (l : ℕ → ℕ). l w.0) (outputs1 c S s)) ∙ w.2)
  no_walked outputs w = S.labels2 s.s2 w.0 w.1 (w.2 ∙ N.alone)

  -- no kept move is refused
  kept_good : kept_at c s ≡ map good (goods (kept_at c s))
  kept_good = let r = directed c s N.alone in all_good (kept_at c s) (λ n i. no_walked r.0 (((kept_as_papers c S s r.0 r.1).refusals n).0 i).1)

  listed_moves : Enumerates (listed_at c s) (λ e. KeptMove (composed_of c) s e.0 e.1)
  listed_moves = let r = directed c s N.alone in enumerated c s kept_good S r.0 r.1

-- at every triple
words_lists : (c : Composition) → Composable c → SigmaOn2AtMost c → Lists (composed_of c) (λ s. Unit {0}) (listed_at c)
words_lists c S N = record {
  exactly = λ s f m g. (listed_moves c S N s).exactly (m, g);
  once = λ s f. (listed_moves c S N s).once;
  onward = λ s f m g h. tt;
}

-- the reading theorem of a composition with one of the three filters
pub readings_of : (c : Composition) → Composable c → SigmaOn2AtMost c → (n : ℕ) → n ≤ 2 → c.filter ≡ filter_of n
    → Readings (semiring c.kind) (exact c.kind) (PairsWith (sigma2 c)) (composed_of c) (merge (pick_of n) (machine1 c) (machine2 c))
readings_of c S N n h e =
    let r = lawful_of n h in
    readings c.kind (exact c.kind) (PairsWith (sigma2 c)) (composed_of c) (pairs_meet c S N) r.0 (pick_of n) (subst (λ F. Lawful F r.0 (pick_of n)) (sym e) r.1)

-- 3c, but for the store: of an opening with well-formed machines and an accepted side, from any two states
pub opened_readings : (s : Settings) (l : Lent) (side : Side) → well_formed l.m1 ≡ true → well_formed l.m2 ≡ true → side_of (operand1 s l) (operand2 s l) ≡ good side
    → s.filter ≤ 2
    → let c = composition_of s l side in
    SigmaOn2AtMost c → (q1 q2 : ℕ)
    → OneToOne (AcceptingPlaces (composed_of c) (listed_at c) (semiring c.kind) (exact c.kind) (at q1 q2)) (PairFrom (semiring c.kind) (exact c.kind) (PairsWith (sigma2 c)) (composed_of c) q1 q2)
    (λ ks. pair_of (moves_at (composed_of c) (listed_at c) (at q1 q2) ks))
    (λ p. places_of (composed_of c) (listed_at c) (at q1 q2) (merge (pick_of s.filter) (machine1 c) (machine2 c) p.0 p.1))
opened_readings s l side w1 w2 e h N q1 q2 =
    let c = composition_of s l side in
    let S = sound_of s l side w1 w2 e in
    placed_readings (composed_of c) (λ s. Unit {0}) (listed_at c) (words_lists c S N) (semiring c.kind) (exact c.kind) (PairsWith (sigma2 c)) _ (readings_of c S N s.filter h refl) q1 q2 tt
