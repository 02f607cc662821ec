-- Chunks do not matter, and neither does the room: a reading cut to its room and read on is the whole reading cut to its room.
use mathlib.Core.Path.{◌≡◌, refl, sym, ap, ◌∙◌}
use mathlib.Core.Bool.{Bool, true, false, cond}
use mathlib.Core.List.{List, [], ◌∷◌, ◌++◌}
use Prim.Native.Nat.{ℕ, ◌+◌, ◌-◌, ◌*◌, ◌<◌}
use native.Mathlib.Omega.{arith}
use lib.ListN.{length, length-append}
use lib.Dec.{eqb, leb, ltb}
use borrow.Author.Tests.{leb-false, lt-leb}
use Rattle.words.specs.Labels.{MAX}
use Rattle.listing_text.specs.Reading.{line_feed, is_blank, is_digit, Scan, reading, not_words, word_ended, step}
use Rattle.listing_text.specs.Chunks.{Input, Rooms, next_line, read_byte, read_bytes, within, in_rooms}

-- the state after xs ++ ys is the state after ys from the state after xs
pub in_chunks : (i : Input) (xs ys : List ℕ) → read_bytes i (xs ++ ys) ≡ read_bytes (read_bytes i xs) ys
unfolding read_bytes
in_chunks i [] ys = refl
in_chunks i (x ∷ xs) ys = in_chunks (read_byte i x) xs ys

-- a word more does not shorten a line
longer : (room : ℕ) (words : List ℕ) (value : ℕ) → leb (length words) room ≡ false → leb (length (words ++ (value ∷ []))) room ≡ false
longer room words value e =
    let h : room < length words = leb-false (length words) room e in
    let k : length (words ++ (value ∷ [])) ≡ length words + 1 = length-append words (value ∷ []) in
    lt-leb (length (words ++ (value ∷ []))) room (omega (arith, k))

-- a line that is too long stays so when a word ends
long_ended : (room : ℕ) (words : List ℕ) (value : ℕ) (inside : Bool) → leb (length words) room ≡ false → not_words ≡ within room (word_ended (reading words value inside))
long_ended room words value true e = rw (longer room words value e) refl
long_ended room words value false e = rw e refl

-- and at any byte
long_step : (room : ℕ) (words : List ℕ) (value : ℕ) (inside : Bool) (b : ℕ) → leb (length words) room ≡ false → not_words ≡ within room (step (reading words value inside) b)
unfolding step
long_step room words value inside b e = go (is_blank b) (is_digit b) (leb (value * 10 + (b - 48)) MAX)
  where
    go : (x y z : Bool) → not_words ≡ within room (cond x (word_ended (reading words value inside)) (cond y (cond z (reading words (value * 10 + (b - 48)) true) not_words) not_words))
    go true y z = long_ended room words value inside e
    go false true true = rw e refl
    go false true false = refl
    go false false z = refl

pub within_step : (room : ℕ) (s : Scan) (b : ℕ) → within room (step (within room s) b) ≡ within room (step s b)
unfolding step
within_step room not_words b = refl
within_step room (reading words value inside) b = go (leb (length words) room) refl
  where
    go : (x : Bool) → leb (length words) room ≡ x → within room (step (cond x (reading words value inside) not_words) b) ≡ within room (step (reading words value inside) b)
    go true e = refl
    go false e = long_step room words value inside b e

pub within_ended : (room : ℕ) (s : Scan) → within room (word_ended (within room s)) ≡ within room (word_ended s)
within_ended room not_words = refl
within_ended room (reading words value inside) = go (leb (length words) room) refl
  where
    go : (x : Bool) → leb (length words) room ≡ x → within room (word_ended (cond x (reading words value inside) not_words)) ≡ within room (word_ended (reading words value inside))
    go true e = refl
    go false e = long_ended room words value inside e

-- twice within is once within
pub within_within : (room : ℕ) (s : Scan) → within room (within room s) ≡ within room s
within_within room not_words = refl
within_within room (reading words value inside) = go (leb (length words) room) refl
  where
    go : (x : Bool) → leb (length words) room ≡ x → within room (cond x (reading words value inside) not_words) ≡ cond x (reading words value inside) not_words
    go true e = rw e refl
    go false e = refl

-- an input by its parts
abbrev pub made : ℕ → Scan → Scan → Scan → Scan → Input
made at s f g q = record { at = at; settings = s; first = f; second = g; query = q }

same : (at : ℕ) {s s' f f' g g' q q' : Scan} → s ≡ s' → f ≡ f' → g ≡ g' → q ≡ q' → made at s f g q ≡ made at s' f' g' q'
same at S F G Q = λ k. made at (S k) (F k) (G k) (Q k)

-- `read_byte` with its tests as arguments
abbrev by_tests_lem : Bool → Bool → Bool → Bool → Bool → Input → ℕ → Input
by_tests_lem x y z w v i b =
    cond x
    (cond y (next_line i)
    (cond z (made i.at (step i.settings b) i.first i.second i.query)
    (cond w (made i.at i.settings (step i.first b) i.second i.query)
    (cond v (made i.at i.settings i.first (step i.second b) i.query)
    (made i.at i.settings i.first i.second (step i.query b))))))
    i

pub rooms_byte : (r : Rooms) (i : Input) (b : ℕ) → in_rooms r (read_byte (in_rooms r i) b) ≡ in_rooms r (read_byte i b)
unfolding read_byte
rooms_byte r i b = go (ltb i.at 4) (eqb b line_feed) (eqb i.at 0) (eqb i.at 1) (eqb i.at 2)
  where
    S : within r.settings (within r.settings i.settings) ≡ within r.settings i.settings
    S = within_within r.settings i.settings

    F : within r.first (within r.first i.first) ≡ within r.first i.first
    F = within_within r.first i.first

    G : within r.second (within r.second i.second) ≡ within r.second i.second
    G = within_within r.second i.second

    Q : within r.query (within r.query i.query) ≡ within r.query i.query
    Q = within_within r.query i.query

    go : (x y z w v : Bool) → in_rooms r (by_tests_lem x y z w v (in_rooms r i) b) ≡ in_rooms r (by_tests_lem x y z w v i b)
    go false y z w v = same i.at S F G Q
    go true true z w v = same (i.at + 1) S F G Q
    go true false true w v = same i.at (within_step r.settings i.settings b) F G Q
    go true false false true v = same i.at S (within_step r.first i.first b) G Q
    go true false false false true = same i.at S F (within_step r.second i.second b) Q
    go true false false false false = same i.at S F G (within_step r.query i.query b)

pub rooms_bytes : (r : Rooms) (i : Input) (bs : List ℕ) → in_rooms r (read_bytes (in_rooms r i) bs) ≡ in_rooms r (read_bytes i bs)
unfolding read_bytes
rooms_bytes r i [] = same i.at (within_within r.settings i.settings) (within_within r.first i.first) (within_within r.second i.second) (within_within r.query i.query)
rooms_bytes r i (b ∷ bs) =
    sym (rooms_bytes r (read_byte (in_rooms r i) b) bs)
    ∙ ap (λ (k : Input). in_rooms r (read_bytes k bs)) (rooms_byte r i b)
    ∙ rooms_bytes r (read_byte i b) bs

-- a chunk read after others, each within the rooms, is all of them read within the rooms
pub next_chunk : (r : Rooms) (i : Input) (xs ys : List ℕ) → in_rooms r (read_bytes (in_rooms r (read_bytes i xs)) ys) ≡ in_rooms r (read_bytes i (xs ++ ys))
next_chunk r i xs ys = rooms_bytes r (read_bytes i xs) ys ∙ ap (in_rooms r) (sym (in_chunks i xs ys))
