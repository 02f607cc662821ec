-- What is printed depends on the first lines alone: three of them for the listing, four for the fan-out.
use mathlib.Core.Path.{◌≡◌}
use mathlib.Core.List.{List}
use Prim.Native.Nat.{ℕ, ◌<◌}
use native.Mathlib.Omega.{arith}
use Rattle.calls.specs.Listing.{lent_lines, listing}
use Rattle.fan_outs.specs.FanOut.{fan_out_line}
use Rattle.listing_text.specs.Reading.{line_at, words_read}
use Rattle.listing_text.specs.Printing.{bytes_of, printed_bytes}
use Rattle.listing_text.specs.FanOutText.{fan_out_bytes, fan_out_printed}

-- the first lines of one input are those of the other
abbrev pub SameLines : ℕ → List ℕ → List ℕ → Type 0
SameLines lines a b = (n : ℕ) → n < lines → line_at n a ≡ line_at n b

pub three_lines : (a b : List ℕ) → SameLines 3 a b → printed_bytes a ≡ printed_bytes b
unfolding printed_bytes
three_lines a b h =
    let x = h 0 (omega arith) in
    let y = h 1 (omega arith) in
    let z = h 2 (omega arith) in
    λ k. bytes_of (listing (words_read (x k)) (words_read (y k)) (words_read (z k)))

pub four_lines : (a b : List ℕ) → SameLines 4 a b → fan_out_printed a ≡ fan_out_printed b
unfolding fan_out_printed
four_lines a b h =
    let x = h 0 (omega arith) in
    let y = h 1 (omega arith) in
    let z = h 2 (omega arith) in
    let q = h 3 (omega arith) in
    λ k. fan_out_bytes (fan_out_line (words_read (x k)) (lent_lines (words_read (y k)) (words_read (z k))) (words_read (q k)))
