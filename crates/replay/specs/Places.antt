-- Where the reading of cases stands after each byte: the line of the case, whether a byte of the case was read, and the reader of the line.
use Rattle.std.specs.Prelude.{true, false, cond, List, [], ◌∷◌, ℕ, ◌+◌, ◌-◌, ◌*◌, min, eqb, ltb}
use Rattle.listing_text.specs.Reading.{line_feed}
use Rattle.listing_read.specs.Meaning.{new_line}
use Rattle.listing_read.specs.Held.{stepped_line}
use Rattle.listing_read.specs.declared.line.LineReader.{LineReader}
use Rattle.replay.specs.declared.cases.Place.{Place}

-- the case before its first byte
abbrev pub new_place : Place
new_place = record { at = 0; begun = false; line = new_line }

-- a case that was begun, before the first byte of a line
abbrev pub place_in : ℕ → LineReader → Place
place_in at line = record { at = at; begun = true; line = line }

-- the room of line k in n words: 4096, or what is left
abbrev pub room_at : ℕ → ℕ → ℕ
room_at n k = min 4096 (n - min (4096 * k) n)

-- a line has ended: the next one, or the next case after the seventh
abbrev pub place_ended : Place → Place
place_ended p = cond (ltb p.at 6) (place_in (p.at + 1) new_line) new_place

-- one byte more, with n words for the lines
abbrev pub place_byte : ℕ → Place → ℕ → Place
place_byte n p b = cond (eqb b line_feed) (place_ended p) (place_in p.at (stepped_line (room_at n p.at) p.line b))

unfoldable pub place_after : ℕ → Place → List ℕ → Place
place_after n p [] = p
place_after n p (b ∷ bs) = place_after n (place_byte n p b) bs
