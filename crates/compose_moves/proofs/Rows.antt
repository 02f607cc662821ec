-- A walked edge and a match of its look-up: what their items make is what `words` makes of the matches. The rows agree because a sigma transition answers only for a label that is not
-- epsilon, and is rewritten to that label.
use mathlib.Core.Path.{◌≡◌, refl, sym, ap, ◌∙◌}
use mathlib.Core.Bool.{Bool, true, false, true≢false}
use mathlib.Core.List.{List, map, Memᴰ as In}
use mathlib.Core.Logic.{◌≢◌, ⊎_elim}
use Rattle.std.specs.Prelude.{Option, None, Some}
use Prim.Native.Nat.{ℕ, zero, suc}
use lib.Dec.{eqb}
use borrow.Author.Tests.{eq-eqb, ne_eqb}
use Rattle.words.specs.Labels.{eps_label, Checked, good, and_then}
use Rattle.words.specs.Weights.{Kind, kind_of}
use Rattle.words.specs.Matches.{MatchType, inputs, outputs, Match, loop, own, viaSigma, tr_of}
use Rattle.words.specs.Sigmas.{Operand, inner, lookup, rewrite, given}
use Rattle.words.specs.Filters.{filter_of, facts_at}
use Rattle.words.specs.Settings.{Lent}
use Rattle.words.specs.Steps.{Composition, Triple, Move, Step, asks, move_of, move_kind, kept_by, keep, step_of}
use Rattle.words.proofs.CheckedLaws.{good_is, past_check}
use Rattle.words.proofs.PapersLookup.{lookup_label, found}
use Rattle.match_type.specs.Chosen.{side_means}
use Rattle.matchers.specs.declared.sigma_matcher.Sigma.{Sigma}
use Rattle.matchers.specs.Meaning.{Item, item_of, operand_in}
use Rattle.compose_fst_op.specs.declared.ComposeFstOpOptions.{ComposeFstOpOptions}
use Rattle.matchers.proofs.Items.{sigma_label}
use Rattle.compose_moves.specs.Moves.{Present, as_tr, row_of, step_if, steps_of, pair_steps}
use Rattle.compose_moves.specs.Walks.{edge_item}
use Rattle.compose_moves.specs.Cursors.{words1, words2, read1, read2}

-- a walked edge as a match
abbrev pub edge_match : ℕ → Match
edge_match zero = loop
edge_match (suc t) = own (suc t)

-- what the match m of the label x gives
abbrev pub item_in : Operand → ℕ → Match → Item
item_in o x m = item_of o.machine (rewrite o.sigma.rewrite_both o.on o.sigma.label x) m

-- a sigma match answers for a label that is not epsilon, and has the sigma label
abbrev pub Fits : Operand → ℕ → Match → Type 0
Fits o x loop = Unit {0}
Fits o x (own t) = Unit {0}
Fits o x (viaSigma t) = (x ≢ eps_label) × (inner o t ≡ o.sigma.label)

abbrev is_own : Match → Bool
is_own loop = false
is_own (own t) = true
is_own (viaSigma t) = false

pub fits : (o : Operand) (s x : ℕ) (ms : List Match) → lookup o s x ≡ good ms → (m : Match) → In m ms → Fits o x m
fits o s x ms e loop i = tt
fits o s x ms e (own t) i = tt
fits o s x ms e (viaSigma t) i =
    let r = sigma_label o s x ms e i in
    let p = (past_check (eqb x o.sigma.label) 11 _ ms (sym (lookup_label o s x r.0 r.1) ∙ e)).1 in
    (r.0, ⊎_elim (λ q. absurd (true≢false (ap is_own q.3))) (λ q. same q.0 q.4 q.2) (found o s x (rw (← good_is p) at i)))
  where
    same : (u : ℕ) → viaSigma u ≡ viaSigma t → inner o u ≡ o.sigma.label → inner o t ≡ o.sigma.label
    same u h k = let z : u ≡ t = cc in rw z at k

-- what a walked edge and a match are as transitions
given_edge : (k : Kind) (on : MatchType) (m : List ℕ) (σ : Sigma) (allowed : Option (List ℕ)) (s x e : ℕ) → as_tr k s (edge_item m e) ≡ given k (operand_in on m σ allowed) s x (edge_match e)
unfolding given
given_edge k on m σ allowed s x zero = refl
given_edge k on m σ allowed s x (suc e) = refl

given_match : (k : Kind) (o : Operand) (s x : ℕ) (m : Match) → as_tr k s (item_in o x m) ≡ given k o s x m
unfolding given
given_match k o s x loop = refl
given_match k o s x (own u) = refl
given_match k o s x (viaSigma u) = refl

-- a composed state of a composition
module _ (c : Composition) (t : Triple) where
  -- the present composed state
  abbrev pub here : Present
  here = record { kind = c.kind; filter = c.filter; facts = facts_at c.operand1 c.operand2 t.s1 t.s2; triple = t }

  -- what `words` makes of a move
  abbrev pub made : Checked Move → List (Checked Step)
  made v = map (λ k. and_then k (step_of c t)) (keep c.filter c.operand1 here.facts t.f v)

  -- a kept move makes its step, by what its two matches give
  pub kept_one : (v : Move) (o : Option ℕ)
      → step_if c.kind (given c.kind c.operand1 t.s1 (asks c.operand2 v.second) v.first) (given c.kind c.operand2 t.s2 (asks c.operand1 v.first) v.second) o
      ≡ map (λ k. and_then k (step_of c t)) (kept_by v o)
  unfolding step_of
  kept_one v None = refl
  kept_one v (Some g) = refl

  -- two items make what the two matches make, where they give the same transitions and stand in the same row
  same_steps : (v : Move) (a b : Item)
      → as_tr c.kind t.s1 a ≡ given c.kind c.operand1 t.s1 (asks c.operand2 v.second) v.first
      → as_tr c.kind t.s2 b ≡ given c.kind c.operand2 t.s2 (asks c.operand1 v.first) v.second
      → row_of a b ≡ move_kind c.operand1 v.first v.second → steps_of here a b ≡ made (good v)
  unfolding steps_of
  same_steps v a b p q r = rw (p, q, r) (kept_one v (c.filter (move_kind c.operand1 v.first v.second) here.facts t.f))

module _ (o : ComposeFstOpOptions) (l : Lent) (t : Triple) where
  abbrev pub A : Operand
  A = read1 o l

  abbrev pub B : Operand
  B = read2 o l

  -- the composition of the words that are read
  abbrev pub C : Composition
  C = record { kind = kind_of o.kind; filter = filter_of o.filter; side = side_means o.side; operand1 = A; operand2 = B }

  row_inputs : (e : ℕ) (m : Match) → Fits B (asks A (edge_match e)) m → row_of (edge_item (words1 o l) e) (item_in B (asks A (edge_match e)) m) ≡ move_kind A (edge_match e) m
  row_inputs e loop h = refl
  row_inputs zero (own u) h = refl
  row_inputs zero (viaSigma u) h = refl
  row_inputs (suc e) (own u) h = refl
  row_inputs (suc e) (viaSigma u) h = rw (ne_eqb (inner A (suc e)) eps_label h.0)

  -- a sigma match has the label asked on its matched side
  rewritten : (b : Bool) (x u : ℕ) → inner A u ≡ A.sigma.label → (rewrite b outputs A.sigma.label x (tr_of A.machine u)).output ≡ x
  rewritten true x u e = rw (eq-eqb (inner A u) A.sigma.label e)
  rewritten false x u e = refl

  row_outputs : (e : ℕ) (m : Match) → Fits A (asks B (edge_match e)) m → row_of (item_in A (asks B (edge_match e)) m) (edge_item (words2 o l) e) ≡ move_kind A m (edge_match e)
  row_outputs zero m h = refl
  row_outputs (suc e) loop h = refl
  row_outputs (suc e) (own u) h = refl
  row_outputs (suc e) (viaSigma u) h = rw (rewritten A.sigma.rewrite_both (inner B (suc e)) u h.1, ne_eqb (inner B (suc e)) eps_label h.0)

  pub pair_inputs : (e : ℕ) (m : Match) → Fits B (asks A (edge_match e)) m → pair_steps inputs (here C t) (edge_item (words1 o l) e) (item_in B (asks A (edge_match e)) m) ≡ made C t (good (move_of inputs (edge_match e) m))
  pair_inputs e m h = same_steps C t (move_of inputs (edge_match e) m) _ _ (given_edge C.kind outputs (words1 o l) o.sigma1 l.allowed1 t.s1 _ e) (given_match C.kind B t.s2 _ m) (row_inputs e m h)

  pub pair_outputs : (e : ℕ) (m : Match) → Fits A (asks B (edge_match e)) m → pair_steps outputs (here C t) (edge_item (words2 o l) e) (item_in A (asks B (edge_match e)) m) ≡ made C t (good (move_of outputs (edge_match e) m))
  pair_outputs e m h = same_steps C t (move_of outputs (edge_match e) m) _ _ (given_match C.kind A t.s1 _ m) (given_edge C.kind inputs (words2 o l) o.sigma2 l.allowed2 t.s2 _ e) (row_outputs e m h)
