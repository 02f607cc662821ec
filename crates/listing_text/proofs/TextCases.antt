-- 01, "The listing": its example, bytes to bytes, and odd lines.
use mathlib.Core.Path.{◌≡◌, refl, ap}
use mathlib.Core.List.Memᴰ.{head as here}
use mathlib.Core.List.Memᴰ.{tail as there}
use mathlib.Core.List.{List, [], ◌∷◌, flat_map}
use Prim.Native.Nat.{ℕ}
use Prim.Native.String.{String}
use Rattle.words.specs.Labels.{MAX}
use Rattle.calls.specs.Listing.{side_line, refused_line, listing}
use Rattle.calls.proofs.Cases.{Holds}
use Rattle.calls.proofs.StarCases.{star_cases, star_case}
use Rattle.calls.proofs.ListingLaws.{odd_lines, odd_line}
use Rattle.listing_text.specs.Ascii.{ascii}
use Rattle.listing_text.specs.Reading.{line_at, step, steps, words_read}
use Rattle.listing_text.specs.Printing.{decimal_by, decimal, spaced, line_bytes, printed_bytes}

-- what is read as the first text is printed as the second
unfoldable pub Prints : String → String → Type 0
Prints input output = printed_bytes (ascii input) ≡ ascii output

-- the words of a line
unfoldable pub Reads : String → List ℕ → Type 0
unfolding step steps
Reads line words = words_read (ascii line) ≡ words

abbrev listed : String
listed = "side output\ns 0 0 0 0 -\nt 1 0 1 1\ns 1 1 0 0 -\nt 0 7 4 2\ns 2 1 1 0 -\nt 2 8 3 3\ns 3 2 2 0 3\nend 4 3\n"

-- the example of 01, whole
pub example : Prints "0 0 4294967295 0 4294967295 0\n3 2 1 0 0 0 1 0 0 2 0 0 0 1 0 1 0 1 1 0 2 5 2 2 0\n3 2 1 0 0 0 1 0 0 2 0 0 0 1 3 0 7 4 1 0 5 8 1 2 0\n" listed
unfolding Prints printed_bytes line_at step steps Holds star_cases odd_lines line_bytes spaced decimal_by flat_map listing
example = ap (flat_map line_bytes) (star_case _ (here refl))

-- no line feed at the end
pub no_line_feed : Prints "0 0 4294967295 0 4294967295 0\n3 2 1 0 0 0 1 0 0 2 0 0 0 1 0 1 0 1 1 0 2 5 2 2 0\n3 2 1 0 0 0 1 0 0 2 0 0 0 1 3 0 7 4 1 0 5 8 1 2 0" listed
unfolding Prints printed_bytes line_at step steps Holds star_cases odd_lines line_bytes spaced decimal_by flat_map listing
no_line_feed = ap (flat_map line_bytes) (star_case _ (here refl))

-- tabs, carriage returns, spaces at either end, leading zeros, a zero of eleven digits
pub blanks : Prints "\t00 00000000000\r  4294967295 0 0004294967295\t\t0 \r\n 3 2 1 0 0 0 1 0 0 2 0 0 0 1 0 1 0 1 1 0 2 5 2 2 0\r\n3\t2\t1\t0\t0\t0\t1\t0\t0\t2\t0\t0\t0\t1\t3\t0\t7\t4\t1\t0\t5\t8\t1\t2\t0\r\n" listed
unfolding Prints printed_bytes line_at step steps Holds star_cases odd_lines line_bytes spaced decimal_by flat_map listing
blanks = ap (flat_map line_bytes) (star_case _ (here refl))

-- lines after the third play no part
pub fourth_line : Prints "0 0 4294967295 0 4294967295 0\n3 2 1 0 0 0 1 0 0 2 0 0 0 1 0 1 0 1 1 0 2 5 2 2 0\n3 2 1 0 0 0 1 0 0 2 0 0 0 1 3 0 7 4 1 0 5 8 1 2 0\nno words\n7 7" listed
unfolding Prints printed_bytes line_at step steps Holds star_cases odd_lines line_bytes spaced decimal_by flat_map listing
fourth_line = ap (flat_map line_bytes) (star_case _ (here refl))

-- the side both
pub both_sides : Prints "0 0 4294967295 0 4294967295 0\n1 2 1 0 1 0 1 0 0 1 4 0 0 2 2 4 0 0 0\n1 2 1 1 0 0 1 0 0 4 7 0 0 2 4 8 0 0 0\n" "side both\ns 0 0 0 0 -\nt 1 7 0 0\nt 1 8 0 0\nt 2 7 0 0\nt 2 8 0 0\nend 1 4\n"
unfolding Prints printed_bytes line_at step steps Holds star_cases odd_lines line_bytes spaced decimal_by flat_map listing
both_sides = ap (flat_map line_bytes) (star_case _ (there (there (there (there (there (there (there (there (there (here refl)))))))))))

-- no start: the side, and nothing found
pub no_start : Prints "0 0 4294967295 0 4294967295 0\n3 2 0 0 0 0 1 0 0 2 0 0 0 1 0 1 0 1 1 0 2 5 2 2 0\n3 2 1 0 0 0 1 0 0 2 0 0 0 1 3 0 7 4 1 0 5 8 1 2 0\n" "side output\nend 0 0\n"
unfolding Prints printed_bytes line_at step steps Holds star_cases odd_lines line_bytes spaced decimal_by flat_map listing
no_start = ap (flat_map line_bytes) (star_case _ (there (there (there (here refl)))))

-- no input at all
pub nothing : Prints "" "refused 1\n"
unfolding Prints printed_bytes line_at step steps Holds star_cases odd_lines line_bytes spaced decimal_by flat_map listing
nothing = refl

-- seven words are no settings
pub seven_settings : Prints "0 0 4294967295 0 4294967295 0 0\n3 2 1 0 0 0 1 0 0 2 0 0 0 1 0 1 0 1 1 0 2 5 2 2 0\n3 2 1 0 0 0 1 0 0 2 0 0 0 1 3 0 7 4 1 0 5 8 1 2 0\n" "refused 1\n"
unfolding Prints printed_bytes line_at step steps Holds star_cases odd_lines line_bytes spaced decimal_by flat_map listing
seven_settings = refl

-- 4294967296 is no word: it is not read as 0
pub large_setting : Prints "0 4294967296 4294967295 0 4294967295 0\n3 2 1 0 0 0 1 0 0 2 0 0 0 1 0 1 0 1 1 0 2 5 2 2 0\n3 2 1 0 0 0 1 0 0 2 0 0 0 1 3 0 7 4 1 0 5 8 1 2 0\n" "refused 1\n"
unfolding Prints printed_bytes line_at step steps Holds star_cases odd_lines line_bytes spaced decimal_by flat_map listing
large_setting = refl

-- a sign is no digit
pub signed_setting : Prints "0 +0 4294967295 0 4294967295 0\n3 2 1 0 0 0 1 0 0 2 0 0 0 1 0 1 0 1 1 0 2 5 2 2 0\n3 2 1 0 0 0 1 0 0 2 0 0 0 1 3 0 7 4 1 0 5 8 1 2 0\n" "refused 1\n"
unfolding Prints printed_bytes line_at step steps Holds star_cases odd_lines line_bytes spaced decimal_by flat_map listing
signed_setting = refl

-- missing machine lines are empty
pub no_machines : Prints "0 0 4294967295 0 4294967295 0\n" "refused 2\n"
unfolding Prints printed_bytes line_at step steps Holds star_cases odd_lines line_bytes spaced decimal_by flat_map listing
no_machines = ap (flat_map line_bytes) (odd_line _ (there (there (there (here refl)))))

-- a letter in the second line: machine 1 is malformed
pub letter_in_machine : Prints "0 0 4294967295 0 4294967295 0\n3 2 l\n\n" "refused 2\n"
unfolding Prints printed_bytes line_at step steps Holds star_cases odd_lines line_bytes spaced decimal_by flat_map listing
letter_in_machine = ap (flat_map line_bytes) (odd_line _ (there (there (there (here refl)))))

-- a missing third line
pub no_second_machine : Prints "0 0 4294967295 0 4294967295 0\n3 2 1 0 0 0 1 0 0 2 0 0 0 1 0 1 0 1 1 0 2 5 2 2 0\n" "refused 3\n"
unfolding Prints printed_bytes line_at step steps Holds star_cases odd_lines line_bytes spaced decimal_by flat_map listing
no_second_machine = ap (flat_map line_bytes) (odd_line _ (there (there (there (there (here refl))))))

-- lines by themselves: the largest word, the first that is none, eleven digits, blanks, other bytes, the bytes beside the digits and the blanks
pub words_read_lem :
    Reads "4294967295" (MAX ∷ []) × Reads "4294967296" [] × Reads "00000000000" (0 ∷ []) × Reads "04294967295 00" (MAX ∷ 0 ∷ []) × Reads "10000000000" []
    × Reads "" [] × Reads " \t\r" [] × Reads "1  2\t\r3 " (1 ∷ 2 ∷ 3 ∷ []) × Reads "1 -2" [] × Reads "1.5" [] × Reads "7a" [] × Reads "a 7" [] × Reads "1\u{b}2" []
    × Reads "/" [] × Reads ":" [] × Reads "1\u{8}2" [] × Reads "1\u{c}2" [] × Reads "1\u{e}2" [] × Reads "1\u{1f}2" [] × Reads "1!2" []
unfolding Reads step steps
words_read_lem = (refl, refl, refl, refl, refl, refl, refl, refl, refl, refl, refl, refl, refl, refl, refl, refl, refl, refl, refl, refl)

-- numbers printed
pub numbers : (decimal 0 ≡ ascii "0") × (decimal 10 ≡ ascii "10") × (decimal 907 ≡ ascii "907") × (decimal MAX ≡ ascii "4294967295") × (decimal 18446744073709551615 ≡ ascii "18446744073709551615")
unfolding decimal_by
numbers = (refl, refl, refl, refl, refl)

-- each side by its name, and a refusal of two digits
pub lines_printed :
    (line_bytes (side_line 0) ≡ ascii "side input\n")
    × (line_bytes (side_line 1) ≡ ascii "side output\n")
    × (line_bytes (side_line 2) ≡ ascii "side both\n")
    × (line_bytes (refused_line 13) ≡ ascii "refused 13\n")
unfolding line_bytes spaced decimal_by
lines_printed = (refl, refl, refl, refl)
