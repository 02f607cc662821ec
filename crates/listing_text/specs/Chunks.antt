-- The reading of the input byte by byte, in chunks of any size, with room for so many words of each line. Chunks and room do not matter: proofs/Chunks.antt; the plain reading: proofs/SameListing.antt.
use Rattle.std.specs.Prelude.{cond, List, [], ◌∷◌, ℕ, ◌+◌, eqb, leb, ltb, length}
use Rattle.calls.specs.Listing.{settings_size, machine_most}
use Rattle.fan_outs.specs.FanOut.{query_size}
use Rattle.listing_text.specs.Reading.{line_feed, Scan, reading, not_words, start, word_ended, step, kept}

-- how far the reading of the input is: the number of the line that is being read, and the readings of the four lines
pub record Input : Type 0 where
  pub at : ℕ
  pub settings : Scan
  pub first : Scan
  pub second : Scan
  pub query : Scan

abbrev pub unread : Input
unread = record { at = 0; settings = start; first = start; second = start; query = start }

-- one byte goes into the line that is being read
abbrev pub into_line : Input → ℕ → Input
into_line i b =
    cond (eqb i.at 0) (record { at = i.at; settings = step i.settings b; first = i.first; second = i.second; query = i.query })
    (cond (eqb i.at 1) (record { at = i.at; settings = i.settings; first = step i.first b; second = i.second; query = i.query })
    (cond (eqb i.at 2) (record { at = i.at; settings = i.settings; first = i.first; second = step i.second b; query = i.query })
    (record { at = i.at; settings = i.settings; first = i.first; second = i.second; query = step i.query b })))

abbrev pub next_line : Input → Input
next_line i = record { at = i.at + 1; settings = i.settings; first = i.first; second = i.second; query = i.query }

-- one byte of the input: a line feed ends the line, and lines after the fourth are not read
unfoldable pub read_byte : Input → ℕ → Input
read_byte i b = cond (ltb i.at 4) (cond (eqb b line_feed) (next_line i) (into_line i b)) i

unfoldable pub read_bytes : Input → List ℕ → Input
read_bytes i [] = i
read_bytes i (b ∷ bs) = read_bytes (read_byte i b) bs

-- a reading with room for so many words: a line of more counts as one that is not of words
abbrev pub within : ℕ → Scan → Scan
within room not_words = not_words
within room (reading words value inside) = cond (leb (length words) room) (reading words value inside) not_words

-- room for each of the four lines
pub record Rooms : Type 0 where
  pub settings : ℕ
  pub first : ℕ
  pub second : ℕ
  pub query : ℕ

abbrev pub in_rooms : Rooms → Input → Input
in_rooms r i =
    record { at = i.at; settings = within r.settings i.settings; first = within r.first i.first; second = within r.second i.second; query = within r.query i.query }

-- the words that a line is left with, when the input has ended
abbrev pub line_words : ℕ → Scan → List ℕ
line_words room s = kept (within room (word_ended s))

-- "A machine line above 4096 words .. is malformed, a settings line not of six such words is refused 1", and "a fourth line not of three words" is refused 9: no more words of a line matter
abbrev pub listing_rooms : Rooms
listing_rooms = record { settings = settings_size; first = machine_most; second = machine_most; query = query_size }
