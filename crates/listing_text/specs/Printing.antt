-- 01, "The listing": what `composed` prints, as bytes, from the bytes that it reads.
use Rattle.std.specs.Prelude.{cond, ℕ, zero, suc, ◌+◌, ◌/◌, ◌%◌, eqb, ltb, Option, None, Some}
use mathlib.Core.List.{List, [], ◌∷◌, ◌++◌, flat_map}
use Rattle.calls.specs.Listing.{Line, side_line, state_line, tr_line, end_line, refused_line, listing}
use Rattle.listing_text.specs.Ascii.{ascii}
use Rattle.listing_text.specs.Reading.{line_feed, line_at, words_read}

-- a number in decimal without leading zeros, of at most k digits
unfoldable pub decimal_by : ℕ → ℕ → List ℕ
decimal_by zero n = []
decimal_by (suc k) n = cond (ltb n 10) ((48 + n) ∷ []) (decimal_by k (n / 10) ++ ((48 + n % 10) ∷ []))

-- a number in decimal: no number of 64 bits has more than twenty digits
abbrev pub decimal : ℕ → List ℕ
decimal n = decimal_by 20 n

-- the words of a line after its first: one space stands before each, and a line feed at the end
unfoldable pub spaced : List (List ℕ) → List ℕ
spaced [] = line_feed ∷ []
spaced (w ∷ ws) = 32 ∷ w ++ spaced ws

-- "side: input, output or both", by its number in the session
abbrev pub side_name : ℕ → List ℕ
side_name n = cond (eqb n 0) (ascii "input") (cond (eqb n 1) (ascii "output") (ascii "both"))

-- "final or -"
abbrev pub final_word : Option ℕ → List ℕ
final_word (Some w) = decimal w
final_word None = ascii "-"

-- "side: input, output or both; s: state, s1, s2, f, final or -; t: input, output, weight, target; end: counts", and `refused n`
unfoldable pub line_bytes : Line → List ℕ
line_bytes (side_line n) = ascii "side" ++ spaced (side_name n ∷ [])
line_bytes (state_line n t w) = ascii "s" ++ spaced (decimal n ∷ decimal t.s1 ∷ decimal t.s2 ∷ decimal t.f ∷ final_word w ∷ [])
line_bytes (tr_line i o w t) = ascii "t" ++ spaced (decimal i ∷ decimal o ∷ decimal w ∷ decimal t ∷ [])
line_bytes (end_line s t) = ascii "end" ++ spaced (decimal s ∷ decimal t ∷ [])
line_bytes (refused_line n) = ascii "refused" ++ spaced (decimal n ∷ [])

-- the lines one after the other
abbrev pub bytes_of : List Line → List ℕ
bytes_of lines = flat_map line_bytes lines

-- "`composed` reads settings .. and both machines as decimal words, one line each": what it prints, as a function of the bytes that it reads. Lines after the third play no part.
unfoldable pub printed_bytes : List ℕ → List ℕ
printed_bytes input = bytes_of (listing (words_read (line_at 0 input)) (words_read (line_at 1 input)) (words_read (line_at 2 input)))
