-- Where a list of calls ends, by the lines that are left: the end is here, or that of the lines after this one.
use mathlib.Core.Path.{◌≡◌, refl}
use mathlib.Core.List.{List}
use Prim.Native.Nat.{ℕ, zero, suc, ◌+◌, ◌≤◌, ◌<◌}
use native.Mathlib.Omega.{arith}
use borrow.Author.Tests.{lt-ltb, le-ltb}
use Rattle.call_lists.specs.Lines.{arg_of, next_line, list_end}

pub no_line : (words : List ℕ) (left at : ℕ) → left ≡ 0 → list_end words left at ≡ at
unfolding list_end
no_line words zero at h = refl
no_line words (suc left) at h = absurd (omega arith)

pub end_here : (words : List ℕ) (left at : ℕ) → arg_of words at 0 < 2 → list_end words left at ≡ at
unfolding list_end
end_here words zero at h = refl
end_here words (suc left) at h = rw (lt-ltb (arg_of words at 0) 2 h) refl

pub line_on : (words : List ℕ) (left rest at : ℕ) → left ≡ rest + 1 → 2 ≤ arg_of words at 0 → list_end words left at ≡ list_end words rest (next_line words at)
unfolding list_end
line_on words zero rest at i h = absurd (omega arith)
line_on words (suc left) rest at i h = let e : left ≡ rest = omega arith in rw (e, le-ltb (arg_of words at 0) 2 h) refl
