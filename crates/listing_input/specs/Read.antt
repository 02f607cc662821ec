-- What a program holds of its input. What standard input gives no contract of the toolchain's library names, so that a promise of every reader can only speak of some bytes. Of a reader that says which bytes it
-- has left, the promise names those.
use Rattle.std.specs.Prelude.{◌≡◌, ◌⊎◌, ◌≤◌, ◌<◌, Bool, false, ◌&&◌, List, [], ◌∷◌, ◌++◌, ℕ, ltb, length, take, None, Some}
use Rattle.std.specs.declared.option.Option.{Option}
use Rattle.std.specs.Io.KnownBytes.{Keeps, Consumes, IsAtEnd}
use Rattle.listing_text.specs.Chunks.{Input, Rooms, unread, read_bytes, in_rooms}

-- what a read hands on: the bytes that came; where it failed, a byte that is of no word, so that the line that is being read is not taken for a whole one
abbrev pub handed_on : Option ℕ → List ℕ → List ℕ
handed_on (Some k) chunk = take k chunk
handed_on None chunk = 33 ∷ []

-- whether to read on for so many lines after a read: bytes came, and not so many lines have ended
abbrev pub reads_on : ℕ → ℕ → Option ℕ → Bool
reads_on lines at (Some k) = ltb at lines && ltb 0 k
reads_on lines at None = false

-- the reading, in these rooms, of some bytes, whatever the chunks in which they came
abbrev pub Reads : Rooms → Input → Type 0
Reads rooms i = (input : List ℕ) × (i ≡ in_rooms rooms (read_bytes unread input))

-- what a read did to the known bytes of an input: it took those that it hands on, all that were left where none came into a chunk with room, and none where it failed
abbrev pub Took : Option (List ℕ) → Option (List ℕ) → Option ℕ → List ℕ → Type 0
Took old new (Some k) chunk = Consumes old new (take k chunk) × (k ≡ 0 → 0 < length chunk → IsAtEnd new)
Took old new None chunk = Keeps old new

-- how many lines have ended in some bytes, up to four
abbrev pub ended_lines : List ℕ → ℕ
ended_lines bytes = (read_bytes unread bytes).at

-- what is read of an input for so many lines: all its bytes; or its first bytes, in which so many lines have ended; or, as where a read failed, its first bytes and a byte of no word (that one failed is not said)
abbrev pub IsReadOf : ℕ → List ℕ → List ℕ → Type 0
IsReadOf lines input bytes =
    (bytes ≡ input) ⊎ (((rest : List ℕ) × (input ≡ bytes ++ rest) × (lines ≤ ended_lines bytes)) ⊎ ((front : List ℕ) × (rest : List ℕ) × (input ≡ front ++ rest) × (bytes ≡ front ++ (33 ∷ []))))

-- the reading, in these rooms, of what is read of an input for so many lines
abbrev pub ReadsFrom : ℕ → List ℕ → Rooms → Input → Type 0
ReadsFrom lines input rooms i = (bytes : List ℕ) × IsReadOf lines input bytes × (i ≡ in_rooms rooms (read_bytes unread bytes))
