-- A composed state all of whose kept moves have a step: it has a direction, and its k-th step is that of the k-th listed move. Without a sigma label on machine 1 its labels stay.
use mathlib.Core.Path.{◌≡◌, refl, sym, ◌∙◌, ap, subst}
use mathlib.Core.Bool.{Bool, true, false, cond}
use mathlib.Core.List.{List, map, Memᴰ as In}
use mathlib.Core.Logic.{◌≢◌}
use Prim.Native.Nat.{ℕ}
use lib.ListN.{length, length-map}
use borrow.Author.Tests.{ne_eqb}
use Rattle.lists.specs.Lists.{At}
use Rattle.lists.proofs.Places.{at_map, of_at_map, in_at}
use Rattle.papers.specs.Composition.{Leaves, outer, Triple, Edges, composed_input}
use Rattle.papers.specs.Machine.{Machine}
use Rattle.words.specs.Labels.{no_label, Checked, good, refused, and_then}
use Rattle.words.specs.Matches.{MatchType, Match, loop, own, viaSigma}
use Rattle.words.specs.Sigmas.{Sigma, replace}
use Rattle.words.specs.Steps.{Composition, Kept, Step, kept_at, step_of, steps_at}
use Rattle.words.specs.AsPapers.{edge_of, edges_of, composed_of, direction_of, matches_of, rewritten, input_by}
use Rattle.words.specs.Links.{Composable, IsStep}
use Rattle.words.proofs.CheckedLaws.{good≢refused}
use Rattle.words.proofs.PapersMoves.{edges_matches}
use Rattle.words.proofs.PapersOpened.{kept_refused}
use Rattle.words.proofs.PapersSteps.{step_good}
use Rattle.readings.specs.Listed.{goods, entry_of, listed_at}
use Rattle.readings.proofs.Listed.{all_good}

-- without a sigma label nothing is rewritten
unwritten : (σ : Sigma) (M : Machine) (q x : ℕ) (label : ℕ → ℕ) (m : Match) → σ.label ≡ no_label → ((t : ℕ) → In t (M.list q) → label t ≢ no_label) → Leaves M q (edge_of m)
    → rewritten σ x m (outer label (edge_of m)) ≡ outer label (edge_of m)
unwritten σ M q x label loop e n i = refl
unwritten σ M q x label (own t) e n i = refl
unwritten σ M q x label (viaSigma t) e n i = go σ.rewrite_both
  where
    go : (b : Bool) → cond b (replace σ.label x (label t)) (label t) ≡ label t
    go true = rw (e, ne_eqb (label t) no_label (n t i))
    go false = refl

-- so without one on machine 1 the input of a composed transition is its own, in whichever direction it was found
pub input_by_lem : (c : Composition) → c.operand1.sigma.label ≡ no_label → ((q t : ℕ) → In t (c.operand1.machine.list q) → c.operand1.machine.input t ≢ no_label)
    → (s : Triple) (d : MatchType) (m : Edges) → Leaves c.operand1.machine s.s1 m.first → input_by c (matches_of d c.operand1 c.operand2 m) ≡ composed_input (composed_of c) m
input_by_lem c none1 labels1 s d m l1 =
    let v = matches_of d c.operand1 c.operand2 m in
    let e : edges_of v ≡ m = edges_matches d c.operand1 c.operand2 m in
    unwritten c.operand1.sigma c.operand1.machine s.s1 _ c.operand1.machine.input v.first none1 (labels1 s.s1)
    (subst (λ (z : Edges). Leaves c.operand1.machine s.s1 z.first) (sym e) l1)
    ∙ ap (composed_input (composed_of c)) e

-- where each kept move has a step
module _ (c : Composition) (P : Composable c) (t : Triple) (steps : List Step) (all : steps_at c t ≡ map good steps) where
  -- the step of the move at a place
  pub listed_step : (k : ℕ) (v : Kept) → At (kept_at c t) k (good v) → (step : Step) × At steps k step × IsStep c t v step
  unfolding steps_at
  listed_step k v h =
      let r = of_at_map good steps k (subst (λ l. At l k (step_of c t v)) all (at_map (λ x. and_then x (step_of c t)) (kept_at c t) k h)) in
      (r.0, r.1, step_good c P t v r.0 r.2)

  -- no kept move is refused
  pub no_refusal : kept_at c t ≡ map good (goods (kept_at c t))
  unfolding steps_at
  no_refusal =
      all_good (kept_at c t)
      (λ n i.
      let p = in_at i in
      let r = of_at_map good steps p.0 (subst (λ l. At l p.0 (refused n)) all (at_map (λ x. and_then x (step_of c t)) (kept_at c t) p.0 p.1)) in
      good≢refused (sym r.2))

  -- so the state has a direction
  pub has_direction : (d : MatchType) × (direction_of c t ≡ good d)
  has_direction = go (direction_of c t) refl
    where
      go : (r : Checked MatchType) → direction_of c t ≡ r → (d : MatchType) × (direction_of c t ≡ good d)
      go (good d) e = (d, e)
      go (refused n) e =
          let r = of_at_map good (goods (kept_at c t)) 0 (subst (λ (l : List (Checked Kept)). At l 0 (refused n)) (sym (kept_refused c t n e) ∙ no_refusal) refl) in
          absurd (good≢refused (sym r.2))

  -- as many moves as steps
  pub listed_length : length (listed_at c t) ≡ length steps
  unfolding steps_at listed_at
  listed_length =
      length-map (goods (kept_at c t)) entry_of
      ∙ sym (length-map (goods (kept_at c t)) good)
      ∙ sym (ap length no_refusal)
      ∙ sym (length-map (kept_at c t) (λ k. and_then k (step_of c t)))
      ∙ ap length all
      ∙ length-map steps good
