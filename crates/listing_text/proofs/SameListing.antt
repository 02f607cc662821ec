-- The reading in chunks with the listing's rooms prints what the plain definition prints: no word past the room of its line matters.
use mathlib.Core.Path.{◌≡◌, refl, ap, ◌∙◌}
use mathlib.Core.Bool.{Bool, true, false, cond}
use mathlib.Core.List.{List, []}
use Prim.Native.Nat.{ℕ, ◌<◌}
use native.Mathlib.Omega.{arith}
use lib.ListN.{length}
use lib.Dec.{leb}
use borrow.Author.Tests.{leb-false, le-leb, ne_eqb}
use Rattle.calls.specs.Listing.{settings_size, machine_most, lent_lines, listing_on, listing}
use Rattle.fan_outs.specs.FanOut.{query_size}
use Rattle.listing_text.specs.Reading.{line_at, Scan, reading, not_words, start, word_ended, steps, kept, words_read}
use Rattle.listing_text.specs.Chunks.{unread, read_bytes, within, in_rooms, line_words, listing_rooms}
use Rattle.listing_text.specs.Printing.{bytes_of, printed_bytes}
use Rattle.listing_text.specs.Ended.{ended_bytes}
use Rattle.listing_text.proofs.Chunks.{within_ended}
use Rattle.listing_text.proofs.LineLaws.{four_lines}

-- a line's words where there are at most so many, else none
abbrev pub at_most : ℕ → List ℕ → List ℕ
at_most room words = cond (leb (length words) room) words []

kept_within : (room : ℕ) (s : Scan) → kept (within room s) ≡ at_most room (kept s)
kept_within room not_words = rw (le-leb 0 room (omega arith)) refl
kept_within room (reading words value inside) = go (leb (length words) room)
  where
    go : (x : Bool) → kept (cond x (reading words value inside) not_words) ≡ cond x words []
    go true = refl
    go false = refl

line_words_lem : (room : ℕ) (line : List ℕ) → line_words room (within room (steps start line)) ≡ at_most room (words_read line)
line_words_lem room line = ap kept (within_ended room (steps start line)) ∙ kept_within room (word_ended (steps start line))

-- a settings line of more than six words is refused like one without words
listing_rooms_lem : (w m1 m2 : List ℕ) → listing_on (at_most settings_size w) (lent_lines m1 m2) ≡ listing w m1 m2
unfolding listing
listing_rooms_lem w m1 m2 = go (leb (length w) settings_size) refl
  where
    go : (x : Bool) → leb (length w) settings_size ≡ x → listing_on (cond x w []) (lent_lines m1 m2) ≡ listing w m1 m2
    go true e = refl
    go false e =
        let h : settings_size < length w = leb-false (length w) settings_size e in
        rw (ne_eqb (length w) settings_size (λ (p : length w ≡ settings_size). absurd (omega (arith, p)))) refl

-- the words that each line is left with: those that it has, where there is room for all
pub lines_left : (input : List ℕ) → (
    let w = listing_rooms in
    let i = in_rooms w (read_bytes unread input) in
    (line_words w.settings i.settings ≡ at_most settings_size (words_read (line_at 0 input))) × (line_words w.first i.first ≡ at_most machine_most (words_read (line_at 1 input)))
    × (line_words w.second i.second ≡ at_most machine_most (words_read (line_at 2 input))) × (line_words w.query i.query ≡ at_most query_size (words_read (line_at 3 input)))
    )
lines_left input =
    let h = four_lines start start start start input in
    (left settings_size 0 h.0, left machine_most 1 h.1, left machine_most 2 h.2, left query_size 3 h.3)
  where
    left : (room n : ℕ) {s : Scan} → s ≡ steps start (line_at n input) → line_words room (within room s) ≡ at_most room (words_read (line_at n input))
    left room n e = ap (λ (s : Scan). line_words room (within room s)) e ∙ line_words_lem room (line_at n input)

-- what the words that are left when the input has ended print
pub same_listing : (input : List ℕ) → (
    let w = listing_rooms in
    let i = in_rooms w (read_bytes unread input) in
    ended_bytes (line_words w.settings i.settings) (line_words w.first i.first) (line_words w.second i.second) ≡ printed_bytes input
    )
unfolding printed_bytes
same_listing input =
    let h = lines_left input in
    (λ k. ended_bytes (h.0 k) (h.1 k) (h.2 k)) ∙ ap bytes_of (listing_rooms_lem (words_read (line_at 0 input)) (words_read (line_at 1 input)) (words_read (line_at 2 input)))
