-- The decimal form of the definition is the library's.
use mathlib.Core.Path.{◌≡◌}
use Prim.Native.Nat.{ℕ, ◌<◌}
use native.Mathlib.Omega.{arith}
use borrow.Author.Tests.{lt-ltb, le-ltb}
use Rattle.std.specs.Prelude.{decimal as decimal_lem}
use Rattle.std.proofs.lemmas.Fmt.{AppendsLastDigit, decimal_from_appends, length-decimal-le}
use Rattle.listing_text.specs.Printing.{decimal_by, decimal}

appends : AppendsLastDigit decimal_by
unfolding decimal_by
appends = record { one = λ k n h. rw (lt-ltb n 10 h); more = λ k n h. rw (le-ltb n 10 h) }

-- a number of 32 bits has at most ten digits
pub spelled : (n : ℕ) → n < 4294967296 → decimal n ≡ decimal_lem n
spelled n h = decimal_from_appends decimal_by appends 20 n (omega arith) (length-decimal-le 20 n (omega arith) (omega arith) (omega arith))
