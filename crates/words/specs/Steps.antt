-- 01, "Choosing the side", second paragraph: the kept moves of a composed state in their order; and its final weight.
use Rattle.std.specs.Prelude.{Bool, ◌&&◌, cond, ℕ, eqb, Option, None, Some}
use mathlib.Core.List.{List, [], ◌∷◌, map, flat_map}
use Rattle.papers.specs.Filter.{MoveKind, lone1, lone2, bothEpsilon, aLabel, Facts, Filter}
use Rattle.words.specs.Labels.{eps_label, no_label, Checked, good, refused, and_then}
use Rattle.words.specs.Weights.{Kind, times, is_zero}
use Rattle.words.specs.Matches.{MatchType, inputs, outputs, Match, loop, own, viaSigma, Tr}
use Rattle.words.specs.Sigmas.{Operand, inner, lookup, given}
use Rattle.words.specs.Sides.{Side, direction_at}
use Rattle.words.specs.Filters.{facts_at}
-- a composed state (compose_state_tuple.rs)
pub use Rattle.papers.specs.Composition.{Triple}

unfoldable pub same_triple : Triple → Triple → Bool
same_triple a b = eqb a.s1 b.s1 && (eqb a.s2 b.s2 && eqb a.f b.f)

-- what stays the same through a composition
pub record Composition : Type 0 where
  pub kind : Kind
  pub filter : Filter
  pub side : Side
  pub operand1 : Operand
  pub operand2 : Operand

-- what each machine does in a move
pub record Move : Type 0 where
  pub first : Match
  pub second : Match

-- The walked machine rests, and then takes each transition of its list: "first each epsilon-input transition of s2 alone; then along s1's list".
abbrev pub walked : Operand → ℕ → List Match
walked o s = loop ∷ map own (o.machine.list s)

-- The label that is asked of the other machine: MAX while this one rests, else this one's inner label. A walked machine has no sigma match: the last clause serves no walk.
abbrev pub asks : Operand → Match → ℕ
asks o loop = no_label
asks o (own t) = inner o t
asks o (viaSigma t) = inner o t

-- a walked edge and its match as a move: direction input walks machine 1, direction output machine 2
abbrev pub move_of : MatchType → Match → Match → Move
move_of inputs w m = record { first = w; second = m }
move_of outputs w m = record { first = m; second = w }

-- the moves of one walked edge, or the refusal of its look-up ("11 before a walked label's matches")
abbrev pub moves_of : MatchType → Match → Checked (List Match) → List (Checked Move)
moves_of d w (refused n) = refused n ∷ []
moves_of d w (good ms) = map (λ m. good (move_of d w m)) ms

-- "for output 0, s1 alone and then a pair with each epsilon of s2; for another label, each match": all moves along W's list at sw, looked up in M at sm
unfoldable pub walk : MatchType → Operand → ℕ → Operand → ℕ → List (Checked Move)
walk d W sw M sm = flat_map (λ w. moves_of d w (lookup M sm (asks W w))) (walked W sw)

-- "Direction output mirrors this, walking s2."
abbrev pub moves_at : MatchType → Operand → Operand → ℕ → ℕ → List (Checked Move)
moves_at inputs A B s1 s2 = walk inputs A s1 B s2
moves_at outputs A B s1 s2 = walk outputs B s2 A s1

-- The row of the filters' table. Two machines at rest, and two sigma matches, never meet: one machine is walked.
abbrev pub move_kind : Operand → Match → Match → MoveKind
move_kind A a loop = lone1
move_kind A loop (own u) = lone2
move_kind A loop (viaSigma u) = lone2
move_kind A (own t) (own u) = cond (eqb (inner A t) eps_label) bothEpsilon aLabel
move_kind A (own t) (viaSigma u) = aLabel
move_kind A (viaSigma t) (own u) = aLabel
move_kind A (viaSigma t) (viaSigma u) = aLabel

-- a move that the filter keeps, with the next f
pub record Kept : Type 0 where
  pub move : Move
  pub next : ℕ

-- the cell of the filters' table: a move is kept with the next f, or dropped
abbrev pub kept_by : Move → Option ℕ → List (Checked Kept)
kept_by v None = []
kept_by v (Some g) = good (record { move = v; next = g }) ∷ []

-- a refusal stays at its place; a dropped move is left out
abbrev pub keep : Filter → Operand → Facts → ℕ → Checked Move → List (Checked Kept)
keep filter A φ f (refused n) = refused n ∷ []
keep filter A φ f (good v) = kept_by v (filter (move_kind A v.first v.second) φ f)

-- the kept moves of a composed state, in the direction given
unfoldable pub kept_along : Composition → Triple → MatchType → List (Checked Kept)
kept_along c s d = flat_map (keep c.filter c.operand1 (facts_at c.operand1 c.operand2 s.s1 s.s2) s.f) (moves_at d c.operand1 c.operand2 s.s1 s.s2)

-- refusal 10 alone, or the kept moves with each refusal 11 at its place
abbrev pub kept_in : Composition → Triple → Checked MatchType → List (Checked Kept)
kept_in c s (refused n) = refused n ∷ []
kept_in c s (good d) = kept_along c s d

-- the kept moves of a composed state
unfoldable pub kept_at : Composition → Triple → List (Checked Kept)
kept_at c s = kept_in c s (direction_at c.side c.operand1 c.operand2 s.s1 s.s2)

-- a composed transition: "machine 1's input, machine 2's output (both after any rewriting), the product of their weights and the state reached"
pub record Step : Type 0 where
  pub input : ℕ
  pub output : ℕ
  pub weight : ℕ
  pub to : Triple

-- refusal 12: "weight too large"
abbrev pub weighed : Tr → Tr → ℕ → Option ℕ → Checked Step
weighed a b g None = refused 12
weighed a b g (Some w) = good (record { input = a.input; output = b.output; weight = w; to = record { s1 = a.target; s2 = b.target; f = g } })

-- a sigma match is rewritten for the label that the other machine asked for; no other match looks at that label
unfoldable pub step_of : Composition → Triple → Kept → Checked Step
step_of c s k =
    let a = given c.kind c.operand1 s.s1 (asks c.operand2 k.move.second) k.move.first in
    let b = given c.kind c.operand2 s.s2 (asks c.operand1 k.move.first) k.move.second in
    weighed a b k.next (times c.kind a.weight b.weight)

-- The composed transitions of a state in 01's order. A refusal stands at its place: 10 alone, 11 before a walked label's matches, 12 for a kept move. The expansion is refused
-- by the first of them, unless a record is lacking before it (`store_steps` of crate calls).
unfoldable pub steps_at : Composition → Triple → List (Checked Step)
steps_at c s = map (λ k. and_then k (step_of c s)) (kept_at c s)

-- "All start at f = 0."
abbrev pub start_of : Option ℕ → Option ℕ → Option Triple
start_of None t = None
start_of (Some s) None = None
start_of (Some s) (Some t) = Some (record { s1 = s; s2 = t; f = 0 })

-- the composed start: "state 0, if both machines have a start"
unfoldable pub start_at : Composition → Option Triple
start_at c = start_of c.operand1.machine.start c.operand2.machine.start

-- "A final weight equal to zero .. the composed state isn't final."
abbrev pub unless_zero : Kind → Option ℕ → Checked (Option ℕ)
unless_zero k None = refused 12
unless_zero k (Some w) = good (cond (is_zero k w) None (Some w))

-- the final weight of a composed state; none: it is not final
unfoldable pub final_at : Composition → Triple → Checked (Option ℕ)
final_at c s =
    let A = c.operand1.machine in
    let B = c.operand2.machine in
    cond (A.is_final s.s1 && B.is_final s.s2) (unless_zero c.kind (times c.kind (A.final_weight s.s1) (B.final_weight s.s2))) (good None)
