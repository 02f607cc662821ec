-- What a test in the code says of the definition that the tested function's contract names, and the number below a start word.
use mathlib.Core.Path.{◌≡◌, refl, sym, ◌∙◌, ap}
use mathlib.Core.Bool.{Bool, true, false}
use Rattle.std.specs.Prelude.{Some}
use Prim.Native.Nat.{ℕ, zero, suc, ◌-◌}
use native.Mathlib.Omega.{arith}
use Rattle.words.specs.Machines.{less_one}

-- `if !f(..)` taken, and passed by
pub fails : {r b : Bool} → r ≡ b → r ≡ false → b ≡ false
fails e t = sym e ∙ t

pub holds : {r b : Bool} → r ≡ b → r ≡ true → b ≡ true
holds e t = sym e ∙ t

-- "start plus one (0: no start)"
pub less_one_lem : (n : ℕ) → (n ≡ 0 → ⊥) → less_one n ≡ Some (n - 1)
less_one_lem zero e = absurd (e refl)
less_one_lem (suc n) e = ap Some (omega arith)
