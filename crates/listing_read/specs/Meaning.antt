-- What the reader's fields and the words in the lent slices stand for.
use Rattle.std.specs.Prelude.{Bool, false, true, cond, List, ℕ, length, take}
use Rattle.listing_text.specs.Reading.{Scan, reading, not_words}
use Rattle.listing_text.specs.Chunks.{Input, Rooms, line_words}
use Rattle.listing_read.specs.declared.line.LineReader.{LineReader}
use Rattle.listing_read.specs.declared.Reader.{Reader}

-- the words that ended stand at the start of the slice
abbrev pub scan_of : List ℕ → LineReader → Scan
scan_of words l = cond l.bad not_words (reading (take l.count words) l.value l.inside)

-- the words that a line is left with, when the input has ended: those that fit its slice
abbrev pub left_words : List ℕ → LineReader → List ℕ
left_words words l = line_words (length words) (scan_of words l)

-- the four lines, each with its slice
abbrev pub read_input : Reader → List ℕ → List ℕ → List ℕ → List ℕ → Input
read_input r settings first second query =
    record { at = r.at; settings = scan_of settings r.settings; first = scan_of first r.first; second = scan_of second r.second; query = scan_of query r.query }

-- the room of a line is the length of its slice
abbrev pub rooms_of : List ℕ → List ℕ → List ℕ → List ℕ → Rooms
rooms_of settings first second query = record { settings = length settings; first = length first; second = length second; query = length query }

-- a reader by its fields
abbrev pub reader_of : ℕ → LineReader → LineReader → LineReader → LineReader → Reader
reader_of at settings first second query = record { at = at; settings = settings; first = first; second = second; query = query }

-- a line by its fields, not bad
abbrev pub line_of : ℕ → ℕ → Bool → LineReader
line_of count value inside = record { count = count; value = value; inside = inside; bad = false }

-- a line of which nothing is read
abbrev pub new_line : LineReader
new_line = line_of 0 0 false

-- a reader of which nothing is read
abbrev pub new_reader : Reader
new_reader = reader_of 0 new_line new_line new_line new_line

-- a line that is not of decimal words, or has more than fit
abbrev pub failed_line : LineReader
failed_line = record { count = 0; value = 0; inside = false; bad = true }
