-- No label of a composed transition is MAX, where both machines are well formed.
use mathlib.Core.Path.{◌≡◌, refl, sym, ◌∙◌, ap, subst}
use mathlib.Core.Bool.{Bool, true, false, cond, false≢true}
use mathlib.Core.List.Memᴰ
use mathlib.Core.List.{Memᴰ as In}
use mathlib.Core.Logic.{⊎_elim}
use Prim.Native.Nat.{ℕ, ◌<◌}
use native.Mathlib.Omega.{arith}
use lib.Dec.{eqb}
use Rattle.lists.proofs.Places.{in_at}
use Rattle.papers.specs.Machine.{Machine}
use Rattle.papers.specs.Composition.{Edge, rest, along, Leaves, outer, Triple}
use Rattle.words.specs.Labels.{no_label, Checked, good, refused}
use Rattle.words.specs.Machines.{tr_word, well_formed}
use Rattle.words.specs.Matches.{MatchType, inputs, outputs, Match, loop, own, viaSigma}
use Rattle.words.specs.Sigmas.{Sigma, Operand, inner}
use Rattle.words.specs.Sides.{Side, side_of}
use Rattle.words.specs.Steps.{Composition, Move, Step, asks, steps_at}
use Rattle.words.specs.Settings.{Settings, Lent, ignored_by, operand1, operand2, composition_of}
use Rattle.words.specs.AsPapers.{edge_of, edges_of, direction_of, walked_of, match_of, matches_of, rewritten, input_by, output_by}
use Rattle.words.proofs.CheckedLaws.{good≢refused}
use Rattle.words.proofs.ReplacedLaws.{heard_small}
use Rattle.words.proofs.PapersOpened.{kept_refused, listed_form}
use Rattle.words.proofs.PapersSteps.{opened_as_papers}

-- which match it is
abbrev is_via : Match → Bool
is_via loop = false
is_via (own t) = false
is_via (viaSigma t) = true

-- a rewritten label is the label, or for a sigma match the one that is asked
written_below : (σ : Sigma) (x : ℕ) (v : Match) (y : ℕ) → y < no_label → (is_via v ≡ true → x < no_label) → rewritten σ x v y < no_label
written_below σ x loop y h k = h
written_below σ x (own t) y h k = h
written_below σ x (viaSigma t) y h k = go σ.rewrite_both (eqb y σ.label)
  where
    go : (b e : Bool) → cond b (cond e x y) y < no_label
    go true true = k refl
    go true false = h
    go false e = h

-- a sigma match answers a transition, whose label is asked
asked_below : (W M : Operand) (e1 e2 : Edge) (q : ℕ) → Leaves W.machine q e1 → ((t : ℕ) → In t (W.machine.list q) → inner W t < no_label)
    → is_via (match_of W M e1 e2) ≡ true → asks W (walked_of e1) < no_label
asked_below W M rest rest q i h e = absurd (false≢true e)
asked_below W M rest (along u) q i h e = absurd (false≢true e)
asked_below W M (along t) e2 q i h e = h t i

-- the walked machine takes no sigma match
walked_none : (e : Edge) → is_via (walked_of e) ≡ true → ⊥
walked_none rest e = false≢true e
walked_none (along t) e = false≢true e

outer_below : (M : Machine) (f : ℕ → ℕ) (q : ℕ) (e : Edge) → Leaves M q e → ((t : ℕ) → In t (M.list q) → f t < no_label) → outer f e < no_label
outer_below M f q rest i h = omega arith
outer_below M f q (along t) i h = h t i

module _ (s : Settings) (l : Lent) (side : Side) (w1 : well_formed l.m1 ≡ true) (w2 : well_formed l.m2 ≡ true) where
  abbrev c : Composition
  c = composition_of s l side

  -- labels of both machines, replaced or not
  input1 : (q t : ℕ) → In t ((operand1 s l).machine.list q) → (operand1 s l).machine.input t < no_label
  input1 q t i = (listed_form l.m1 w1 q t i).input

  output2 : (q t : ℕ) → In t ((operand2 s l).machine.list q) → (operand2 s l).machine.output t < no_label
  output2 q t i = (listed_form l.m2 w2 q t i).output

  inner1 : (q t : ℕ) → In t ((operand1 s l).machine.list q) → inner (operand1 s l) t < no_label
  inner1 q t i = omega (arith, heard_small (ignored_by s l) (tr_word l.m1 t 1), (listed_form l.m1 w1 q t i).output)

  inner2 : (q t : ℕ) → In t ((operand2 s l).machine.list q) → inner (operand2 s l) t < no_label
  inner2 q t i = omega (arith, heard_small (ignored_by s l) (tr_word l.m2 t 0), (listed_form l.m2 w2 q t i).input)

  -- what a sigma match is asked
  asked1 : (d : MatchType) (v : Move) (t : Triple) → matches_of d (operand1 s l) (operand2 s l) (edges_of v) ≡ v → Leaves (operand2 s l).machine t.s2 (edge_of v.second)
      → is_via v.first ≡ true → asks (operand2 s l) v.second < no_label
  asked1 inputs v t k i e = absurd (walked_none (edge_of v.first) (ap (λ (x : Move). is_via x.first) k ∙ e))
  asked1 outputs v t k i e =
      subst (λ (x : Move). asks (operand2 s l) x.second < no_label) k
      (asked_below (operand2 s l) (operand1 s l) (edge_of v.second) (edge_of v.first) t.s2 i (inner2 t.s2) (ap (λ (x : Move). is_via x.first) k ∙ e))

  asked2 : (d : MatchType) (v : Move) (t : Triple) → matches_of d (operand1 s l) (operand2 s l) (edges_of v) ≡ v → Leaves (operand1 s l).machine t.s1 (edge_of v.first)
      → is_via v.second ≡ true → asks (operand1 s l) v.first < no_label
  asked2 outputs v t k i e = absurd (walked_none (edge_of v.second) (ap (λ (x : Move). is_via x.second) k ∙ e))
  asked2 inputs v t k i e =
      subst (λ (x : Move). asks (operand1 s l) x.first < no_label) k
      (asked_below (operand1 s l) (operand2 s l) (edge_of v.first) (edge_of v.second) t.s1 i (inner1 t.s1) (ap (λ (x : Move). is_via x.second) k ∙ e))

  -- the labels of every step are below MAX
  pub steps_labels : side_of (operand1 s l) (operand2 s l) ≡ good side → (t : Triple) (st : Step) → In (good st) (steps_at c t) → (st.input < no_label) × (st.output < no_label)
  unfolding steps_at
  steps_labels e t st i = go (direction_of c t) refl
    where
      go : (d : Checked MatchType) → direction_of c t ≡ d → (st.input < no_label) × (st.output < no_label)
      go (refused n) p = absurd (⊎_elim good≢refused Memᴰ.not-nil (Memᴰ.cases_cons (rw (kept_refused c t n p) at i)))
      go (good d) p =
          let k = in_at i in
          let E = opened_as_papers s l side w1 w2 e t d p in
          let r = E.sound k.0 st k.1 in
          let v = r.0.move in
          let known = E.known k.0 r.0 r.1 in
          let leaves = r.2.1 in
          let first : input_by c v < no_label =
          written_below (operand1 s l).sigma (asks (operand2 s l) v.second) v.first (outer (operand1 s l).machine.input (edge_of v.first))
          (outer_below (operand1 s l).machine (operand1 s l).machine.input t.s1 (edge_of v.first) leaves.0 (input1 t.s1))
          (asked1 d v t known leaves.1)
          in
          let second : output_by c v < no_label =
          written_below (operand2 s l).sigma (asks (operand1 s l) v.first) v.second (outer (operand2 s l).machine.output (edge_of v.second))
          (outer_below (operand2 s l).machine (operand2 s l).machine.output t.s2 (edge_of v.second) leaves.1 (output2 t.s2))
          (asked2 d v t known leaves.0)
          in
          (subst (λ (x : ℕ). x < no_label) (sym r.3.input) first, subst (λ (x : ℕ). x < no_label) (sym r.3.output) second)
