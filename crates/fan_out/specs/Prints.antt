-- What the program prints. Which bytes standard input gives no contract can name (specs/Read.antt of `listing_input`), so that the promise of every reader can only speak of some; of a reader that says its bytes, it
-- names them.
use Rattle.std.specs.Prelude.{◌≡◌, ◌⊎◌, List, [], ◌∷◌, ◌++◌, ℕ}
use Rattle.listing_text.specs.FanOutText.{fan_out_printed}
use Rattle.listing_write.specs.Written.{Written}

-- out' is out with what `fan_out` prints of some bytes, and n is the number of bytes printed
abbrev pub Prints : List ℕ → List ℕ → ℕ → Type 0
Prints out out' n = (input : List ℕ) × Written out 0 (fan_out_printed input) out' n

-- the same of an input with these bytes: what is printed of them, or, as where a read failed, of those that came before and a byte of no word (that one failed is not said)
abbrev pub PrintsOf : List ℕ → List ℕ → List ℕ → ℕ → Type 0
PrintsOf input out out' n =
    Written out 0 (fan_out_printed input) out' n ⊎ ((front : List ℕ) × (rest : List ℕ) × (input ≡ front ++ rest) × Written out 0 (fan_out_printed (front ++ (33 ∷ []))) out' n)
