-- 01, "The listing": what `composed` reads, as bytes. "settings .. and both machines as decimal words, one line each". Odd lines as DECISIONS says.
use Rattle.std.specs.Prelude.{Bool, true, false, cond, ◌&&◌, ◌||◌, List, [], ◌∷◌, ◌++◌, ℕ, zero, suc, ◌+◌, ◌-◌, ◌*◌, eqb, leb}
use Rattle.words.specs.Labels.{MAX}

abbrev pub line_feed : ℕ
line_feed = 10

-- Line n of the input, counted from 0: up to a line feed or the end of the input. A line that is missing is empty.
unfoldable pub line_at : ℕ → List ℕ → List ℕ
line_at n [] = []
line_at zero (b ∷ bs) = cond (eqb b line_feed) [] (b ∷ line_at zero bs)
line_at (suc n) (b ∷ bs) = cond (eqb b line_feed) (line_at n bs) (line_at (suc n) bs)

-- words stand apart by tabs, carriage returns or spaces
abbrev pub is_blank : ℕ → Bool
is_blank b = eqb b 9 || (eqb b 13 || eqb b 32)

-- `0` to `9`
abbrev pub is_digit : ℕ → Bool
is_digit b = leb 48 b && leb b 57

-- How far the reading of a line is: the words that ended, the value of the word that is being read, and whether there is one; or the line is not of decimal words up to MAX.
pub data Scan : Type 0 where
  reading : List ℕ → ℕ → Bool → Scan
  not_words : Scan

abbrev pub start : Scan
start = reading [] 0 false

-- the word that is being read ends, if there is one
abbrev pub word_ended : Scan → Scan
word_ended not_words = not_words
word_ended (reading words value true) = reading (words ++ (value ∷ [])) 0 false
word_ended (reading words value false) = reading words value false

-- a digit more: "decimal words up to MAX". The value is judged and not the spelling, so leading zeros pass.
abbrev pub digit : List ℕ → ℕ → Scan
digit words value = cond (leb value MAX) (reading words value true) not_words

-- one byte of a line: a blank ends a word, a digit goes on with one or begins one, and any other byte makes the line one that is not of decimal words
unfoldable pub step : Scan → ℕ → Scan
step not_words b = not_words
step (reading words value inside) b =
    cond (is_blank b) (word_ended (reading words value inside)) (cond (is_digit b) (digit words (value * 10 + (b - 48))) not_words)

unfoldable pub steps : Scan → List ℕ → Scan
steps s [] = s
steps s (b ∷ bs) = steps (step s b) bs

-- the words that a reading has: none where the line is not of decimal words
abbrev pub kept : Scan → List ℕ
kept not_words = []
kept (reading words value inside) = words

-- the words of a line: a line that is not of decimal words up to MAX counts as one without words
abbrev pub words_read : List ℕ → List ℕ
words_read line = kept (word_ended (steps start line))
