-- The reading in chunks with the listing's rooms prints what the plain definition of `fan_out` prints.
use mathlib.Core.Path.{◌≡◌, refl, ap, ◌∙◌}
use mathlib.Core.Bool.{Bool, true, false, cond}
use mathlib.Core.List.{List, []}
use Prim.Native.Nat.{ℕ, ◌<◌}
use native.Mathlib.Omega.{arith}
use lib.ListN.{length}
use lib.Dec.{leb}
use borrow.Author.Tests.{leb-false, ne_eqb}
use Rattle.words.specs.Settings.{Lent}
use Rattle.calls.specs.Listing.{settings_size, lent_lines}
use Rattle.fan_outs.specs.FanOut.{query_size, fan_out_line}
use Rattle.listing_text.specs.Reading.{line_at, words_read}
use Rattle.listing_text.specs.Chunks.{unread, read_bytes, in_rooms, line_words, listing_rooms}
use Rattle.listing_text.specs.FanOutText.{fan_out_bytes, fan_out_printed, ended_fan_out}
use Rattle.listing_text.proofs.SameListing.{at_most, lines_left}

-- more words than a size are not of that size, and neither are none
too_long : (size : ℕ) (w : List ℕ) → leb (length w) size ≡ false → length w ≡ size → ⊥
too_long size w e p = let h : size < length w = leb-false (length w) size e in absurd (omega (arith, h, p))

-- a settings line of more than six words is refused like one without words, and so is a query of more than three
fan_out_rooms : (w : List ℕ) (l : Lent) (q : List ℕ) → fan_out_line (at_most settings_size w) l (at_most query_size q) ≡ fan_out_line w l q
unfolding fan_out_line
fan_out_rooms w l q = go (leb (length w) settings_size) (leb (length q) query_size) refl refl
  where
    go : (x y : Bool) → leb (length w) settings_size ≡ x → leb (length q) query_size ≡ y → fan_out_line (cond x w []) l (cond y q []) ≡ fan_out_line w l q
    go true true e f = refl
    go true false e f = rw (ne_eqb (length q) query_size (too_long query_size q f)) refl
    go false y e f = rw (ne_eqb (length w) settings_size (too_long settings_size w e)) refl

-- what the words that are left when the input has ended print
pub same_fan_out : (input : List ℕ) → (
    let w = listing_rooms in
    let i = in_rooms w (read_bytes unread input) in
    ended_fan_out (line_words w.settings i.settings) (line_words w.first i.first) (line_words w.second i.second) (line_words w.query i.query) ≡ fan_out_printed input
    )
unfolding fan_out_printed
same_fan_out input =
    let h = lines_left input in
    (λ k. ended_fan_out (h.0 k) (h.1 k) (h.2 k) (h.3 k))
    ∙ ap fan_out_bytes (fan_out_rooms (words_read (line_at 0 input)) (lent_lines (words_read (line_at 1 input)) (words_read (line_at 2 input))) (words_read (line_at 3 input)))
