-- 01, "From the leaves upward", semiring.rs: one, times, the test for zero, for the two kinds of weight.
use Rattle.std.specs.Prelude.{Bool, ◌||◌, cond, ℕ, zero, suc, ◌+◌, ◌*◌, eqb, ltb, leb, Option, None, Some}
use Rattle.words.specs.Labels.{MAX}
-- the two semirings; what 01 adds is the limit
pub use Rattle.papers.specs.Weight.{Kind, cost, count}

-- "Cost (0)", "Count (1)"; another number is refused before it is read
abbrev pub kind_of : ℕ → Kind
kind_of zero = cost
kind_of (suc n) = count

-- "one is 0", "one is 1"
abbrev pub one : Kind → ℕ
one cost = 0
one count = 1

-- "zero is MAX", "zero is 0"
abbrev pub zero_of : Kind → ℕ
zero_of cost = MAX
zero_of count = 0

unfoldable pub is_zero : Kind → ℕ → Bool
is_zero k w = eqb w (zero_of k)

-- Cost: "times is the sum", "zero with anything is zero". Count: "times is the product".
-- none: "A cost of two finite parts reaching MAX, or a count above MAX, is too large."
unfoldable pub times : Kind → ℕ → ℕ → Option ℕ
times cost a b = cond (eqb a MAX || eqb b MAX) (Some MAX) (cond (ltb (a + b) MAX) (Some (a + b)) None)
times count a b = cond (leb (a * b) MAX) (Some (a * b)) None
