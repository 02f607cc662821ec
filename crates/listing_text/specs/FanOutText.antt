-- 02, 2.6: what `fan_out` prints, as bytes, from the bytes that it reads.
use Rattle.std.specs.Prelude.{List, [], ◌∷◌, ◌++◌, ℕ, None}
use Rattle.words.specs.Labels.{Checked, good, refused}
use Rattle.calls.specs.Listing.{refused_line, lent_lines}
use Rattle.fan_outs.specs.FanOut.{fan_out_line}
use Rattle.listing_text.specs.Reading.{line_feed, line_at, words_read}
use Rattle.listing_text.specs.Printing.{decimal, line_bytes}

-- "prints the number alone"
abbrev pub count_bytes : ℕ → List ℕ
count_bytes n = decimal n ++ (line_feed ∷ [])

-- or `refused n`, as `composed` does
abbrev pub fan_out_bytes : Checked ℕ → List ℕ
fan_out_bytes (good n) = count_bytes n
fan_out_bytes (refused k) = line_bytes (refused_line k)

-- "A program reads the lines of `composed` and a fourth": what it prints, as a function of the bytes that it reads. Lines after the fourth are not read; a missing fourth line has no words.
unfoldable pub fan_out_printed : List ℕ → List ℕ
fan_out_printed input =
    fan_out_bytes (fan_out_line (words_read (line_at 0 input)) (lent_lines (words_read (line_at 1 input)) (words_read (line_at 2 input))) (words_read (line_at 3 input)))

-- what is printed of the words that the four lines are left with
abbrev pub ended_fan_out : (settings first second query : List ℕ) → List ℕ
ended_fan_out settings first second query = fan_out_bytes (fan_out_line settings (record { m1 = first; m2 = second; allowed1 = None; allowed2 = None; ignored = [] }) query)
