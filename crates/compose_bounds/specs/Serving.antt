-- Bounds on the two lists of a composed state: where they hold, no refusal stands among its steps, and the steps are few.
use Rattle.std.specs.Prelude.{◌≡◌, Bool, cond, ◌⊎◌, ℕ, ◌+◌, ◌*◌, ◌≤◌, ltb, leb, length}
use mathlib.Core.List.{List, Memᴰ as In}
use Rattle.words.specs.Labels.{MAX, no_label}
use Rattle.words.specs.Weights.{Kind, cost, count, zero_of}
use Rattle.words.specs.Matches.{MatchType, inputs, outputs, Match, loop, own, viaSigma, labelled}
use Rattle.words.specs.Sigmas.{Operand}
use Rattle.words.specs.Sides.{Side, only, both}
use Rattle.words.specs.Links.{epsilons}

-- a match is the loop, or a record of the list
abbrev pub Listed : List ℕ → Match → Type 0
Listed l loop = Unit {0}
Listed l (own t) = In t l
Listed l (viaSigma t) = In t l

-- every weight of the list is a word, and is the kind's zero or at most `largest`
pub record Light (k : Kind) (o : Operand) (s largest : ℕ) : Type 0 where
  pub word : (t : ℕ) → In t (o.machine.list s) → o.machine.weight t ≤ MAX
  pub most : (t : ℕ) → In t (o.machine.list s) → (o.machine.weight t ≡ zero_of k) ⊎ (o.machine.weight t ≤ largest)

-- no product of a weight up to p and one up to q is too large, so there is no 12
abbrev pub weights_fit : Kind → ℕ → ℕ → Bool
weights_fit cost p q = ltb (p + q) MAX
weights_fit count p q = leb (p * q) MAX

-- no inner label stands more than `run` times in M's list at sm
abbrev pub Runs : Operand → ℕ → ℕ → Type 0
Runs M sm run = (x : ℕ) → length (labelled M.on M.machine sm x) ≤ run

-- What a walk of W at sw, looked up in M at sm, is bounded by: M has no sigma label, each walked label has at most `run` transitions of M, and so there are at most n moves.
pub record Bounded (W : Operand) (sw : ℕ) (M : Operand) (sm run n : ℕ) : Type 0 where
  pub unset : M.sigma.label ≡ no_label
  pub runs : Runs M sm run
  pub few : length (epsilons M sm) + length (W.machine.list sw) * (run + 1) ≤ n

-- the same in a direction: input walks machine 1, output machine 2
abbrev pub Walks : MatchType → Operand → Operand → ℕ → ℕ → ℕ → ℕ → Type 0
Walks inputs A B s1 s2 run n = Bounded A s1 B s2 run n
Walks outputs A B s1 s2 run n = Bounded B s2 A s1 run n

-- the direction where no state has a sigma transition, by the lengths of the two lists
abbrev pub plain_direction : Side → ℕ → ℕ → MatchType
plain_direction (only on) length1 length2 = on
plain_direction both length1 length2 = cond (leb length1 length2) inputs outputs
