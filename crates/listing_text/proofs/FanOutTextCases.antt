-- 02, 2.6: what `fan_out` prints, bytes to bytes, by the table of `fan_outs`.
use mathlib.Core.Path.{◌≡◌, refl, ap}
use Prim.Native.String.{String}
use Rattle.lists.proofs.Places.{at_in}
use Rattle.fan_outs.proofs.FanOutCases.{Holds, cases, each_case}
use Rattle.listing_text.specs.Ascii.{ascii}
use Rattle.listing_text.specs.Reading.{line_at, step, steps}
use Rattle.listing_text.specs.Printing.{decimal_by, spaced, line_bytes}
use Rattle.listing_text.specs.FanOutText.{fan_out_bytes, fan_out_printed}

-- what is read as the first text is printed as the second
unfoldable pub Prints : String → String → Type 0
Prints input output = fan_out_printed (ascii input) ≡ ascii output

-- an own match and a sigma match: the gate runs the program on this
pub two : Prints "0 0 4294967295 0 9 0\n1 3 1 0 0 0 1 0 0 1 3 0 0 2 1 2 0 0 3 1 3 0 0 0\n1 3 1 0 0 0 1 0 0 0 6 1 0 2 4 6 2 0 3 9 9 3 0 0\n2 0 4\n" "2\n"
unfolding Prints fan_out_printed Holds cases line_at step steps line_bytes spaced decimal_by
two = ap fan_out_bytes (each_case _ (at_in cases 5 refl))

-- blanks, leading zeros, no line feed at the end
pub blanks : Prints "0 0 4294967295 0 9 0\n1 3 1 0 0 0 1 0 0 1 3 0 0 2 1 2 0 0 3 1 3 0 0 0\n1 3 1 0 0 0 1 0 0 0 6 1 0 2 4 6 2 0 3 9 9 3 0 0\n\t2 00 \r004" "2\n"
unfolding Prints fan_out_printed Holds cases line_at step steps line_bytes spaced decimal_by
blanks = ap fan_out_bytes (each_case _ (at_in cases 5 refl))

-- a fifth line is not read
pub fifth_line : Prints "0 0 4294967295 0 9 0\n1 3 1 0 0 0 1 0 0 1 3 0 0 2 1 2 0 0 3 1 3 0 0 0\n1 3 1 0 0 0 1 0 0 0 6 1 0 2 4 6 2 0 3 9 9 3 0 0\n2 0 4\n5 x" "2\n"
unfolding Prints fan_out_printed Holds cases line_at step steps line_bytes spaced decimal_by
fifth_line = ap fan_out_bytes (each_case _ (at_in cases 5 refl))

-- the sigma label
pub eleven : Prints "0 0 4294967295 0 9 0\n1 3 1 0 0 0 1 0 0 1 3 0 0 2 1 2 0 0 3 1 3 0 0 0\n1 3 1 0 0 0 1 0 0 0 6 1 0 2 4 6 2 0 3 9 9 3 0 0\n2 0 9\n" "refused 11\n"
unfolding Prints fan_out_printed Holds cases line_at step steps line_bytes spaced decimal_by
eleven = ap fan_out_bytes (each_case _ (at_in cases 9 refl))

-- a missing fourth line; one with a word above MAX, which is no word
pub no_query : Prints "0 0 4294967295 0 9 0\n1 3 1 0 0 0 1 0 0 1 3 0 0 2 1 2 0 0 3 1 3 0 0 0\n1 3 1 0 0 0 1 0 0 0 6 1 0 2 4 6 2 0 3 9 9 3 0 0" "refused 9\n"
unfolding Prints fan_out_printed Holds cases line_at step steps line_bytes spaced decimal_by
no_query = ap fan_out_bytes (each_case _ (at_in cases 23 refl))

pub large_label : Prints "0 0 4294967295 0 9 0\n1 3 1 0 0 0 1 0 0 1 3 0 0 2 1 2 0 0 3 1 3 0 0 0\n1 3 1 0 0 0 1 0 0 0 6 1 0 2 4 6 2 0 3 9 9 3 0 0\n2 0 4294967296\n" "refused 9\n"
unfolding Prints fan_out_printed Holds cases line_at step steps line_bytes spaced decimal_by
large_label = ap fan_out_bytes (each_case _ (at_in cases 23 refl))
