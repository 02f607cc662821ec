-- Tests of tests, for laws over finitely many cases. They stay shut, so that a use of their laws (proofs/Finite) finds what `_` stands for.
use Rattle.std.specs.Prelude.{Bool, true, false}

unfoldable pub both : Bool → Bool → Bool
both true b = b
both false b = false

unfoldable pub implies : Bool → Bool → Bool
implies true b = b
implies false b = true

-- P holds of true and of false
unfoldable pub all_b : (Bool → Bool) → Bool
all_b P = both (P true) (P false)
