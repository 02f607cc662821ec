-- A weighted transducer: Mohri, Pereira, Riley 2002, "Weighted finite-state transducers in speech recognition", the definition of a weighted transducer.
use Rattle.std.specs.Prelude.{Bool, List, ℕ, Option}

-- the empty label
abbrev pub ε : ℕ
ε = 0

-- States and transitions have numbers; label 0 is ε. `list q` holds the transitions that leave q; `input`, `output`, `weight` and `target` are i[e], o[e], w[e] and n[e];
-- `final_weight` is ρ where `is_final` holds. Ours: there is at most one initial state, of weight one; the transitions of a state stand in an order; and a number may stand in
-- several lists, where it is one transition of the papers, with its own origin p[e], for each. Weights are numbers: which element of the semiring a number stands for is
-- told where weights are spoken of.
pub record Machine : Type 0 where
  pub states : ℕ
  pub start : Option ℕ
  pub list : ℕ → List ℕ
  pub input : ℕ → ℕ
  pub output : ℕ → ℕ
  pub weight : ℕ → ℕ
  pub target : ℕ → ℕ
  pub is_final : ℕ → Bool
  pub final_weight : ℕ → ℕ
