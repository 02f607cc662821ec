-- What a reader and its four slices are after each byte, field by field and word by word, on any fields. What they stand for is in Meaning.antt.
use Rattle.std.specs.Prelude.{true, false, cond, List, [], ◌∷◌, ℕ, ◌+◌, ◌-◌, ◌*◌, eqb, leb, ltb, length, set}
use Rattle.words.specs.Labels.{MAX}
use Rattle.listing_text.specs.Reading.{line_feed, is_blank, is_digit}
use Rattle.listing_read.specs.Meaning.{line_of, failed_line, reader_of}
use Rattle.listing_read.specs.declared.line.LineReader.{LineReader}
use Rattle.listing_read.specs.declared.Reader.{Reader}

-- the word that is being read ends: it is stored if there is one, and is one too many where the slice is full
abbrev pub ended_line : ℕ → LineReader → LineReader
ended_line room l = cond l.bad l (cond l.inside (cond (ltb l.count room) (line_of (l.count + 1) 0 false) failed_line) l)

-- the slice then: one word is set, or none
abbrev pub ended_words : LineReader → List ℕ → List ℕ
ended_words l words = cond l.bad words (cond l.inside (set words l.count l.value) words)

-- a digit more
abbrev pub digit_line : LineReader → ℕ → LineReader
digit_line l value = cond (leb value MAX) (line_of l.count value true) failed_line

-- one byte of a line
abbrev pub stepped_line : ℕ → LineReader → ℕ → LineReader
stepped_line room l b = cond l.bad l (cond (is_blank b) (ended_line room l) (cond (is_digit b) (digit_line l (l.value * 10 + (b - 48))) failed_line))

-- the slice then
abbrev pub stepped_words : LineReader → List ℕ → ℕ → List ℕ
stepped_words l words b = cond (is_blank b) (ended_words l words) words

-- a reader with its slices
pub record Held : Type 0 where
  pub reader : Reader
  pub settings : List ℕ
  pub first : List ℕ
  pub second : List ℕ
  pub query : List ℕ

abbrev pub held : Reader → List ℕ → List ℕ → List ℕ → List ℕ → Held
held r settings first second query = record { reader = r; settings = settings; first = first; second = second; query = query }

-- one byte goes into the line that is being read
abbrev pub held_in_line : Reader → List ℕ → List ℕ → List ℕ → List ℕ → ℕ → Held
held_in_line r s f g q b =
    cond (eqb r.at 0) (held (reader_of r.at (stepped_line (length s) r.settings b) r.first r.second r.query) (stepped_words r.settings s b) f g q)
    (cond (eqb r.at 1) (held (reader_of r.at r.settings (stepped_line (length f) r.first b) r.second r.query) s (stepped_words r.first f b) g q)
    (cond (eqb r.at 2) (held (reader_of r.at r.settings r.first (stepped_line (length g) r.second b) r.query) s f (stepped_words r.second g b) q)
    (held (reader_of r.at r.settings r.first r.second (stepped_line (length q) r.query b)) s f g (stepped_words r.query q b))))

-- one byte of the input
unfoldable pub held_byte : Held → ℕ → Held
held_byte h b =
    let r = h.reader in
    cond (ltb r.at 4)
    (cond (eqb b line_feed) (held (reader_of (r.at + 1) r.settings r.first r.second r.query) h.settings h.first h.second h.query)
    (held_in_line r h.settings h.first h.second h.query b))
    h

unfoldable pub held_bytes : Held → List ℕ → Held
held_bytes h [] = h
held_bytes h (b ∷ bs) = held_bytes (held_byte h b) bs
