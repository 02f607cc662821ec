-- A chunk of the input, byte by byte. The room of each line is the length of its slice.
use mathlib.Core.Path.{◌≡◌, sym, ap, ◌∙◌}
use mathlib.Core.List.{List, [], ◌∷◌}
use Prim.Native.Nat.{ℕ, ◌+◌, ◌<◌}
use native.Mathlib.Numerals.{add-one}
use lib.ListN.{length, take, get_or}
use lib.Seq.{take-suc}
use Rattle.listing_text.specs.Chunks.{Input, Rooms, in_rooms, read_byte, read_bytes}
use Rattle.listing_text.proofs.Chunks.{made, in_chunks, rooms_byte}
use Rattle.listing_read.specs.Meaning.{read_input, rooms_of}
use Rattle.listing_read.specs.declared.Reader.{Reader}
use Rattle.listing_read.proofs.ScanLaws.{scan_within}

-- an input whose lines are within their slices is within them
pub input_within : (r : Reader) (s f g q : List ℕ) → read_input r s f g q ≡ in_rooms (rooms_of s f g q) (read_input r s f g q)
input_within r s f g q = λ k. made r.at (scan_within s r.settings k) (scan_within f r.first k) (scan_within g r.second k) (scan_within q r.query k)

-- one byte more of a chunk: i bytes of it are read, from I₀ on, in rooms W
pub one_more : (W' W : Rooms) (I₀ I I' : Input) (chunk : List ℕ) (i : ℕ) → W' ≡ W → i < length chunk → I ≡ in_rooms W (read_bytes I₀ (take i chunk)) → I' ≡ in_rooms W' (read_byte I (get_or chunk i 0))
    → I' ≡ in_rooms W (read_bytes I₀ (take (i + 1) chunk))
unfolding read_bytes
one_more W' W I₀ I I' chunk i v h p q =
    q
    ∙ ap (λ (u : Rooms). in_rooms u (read_byte I (get_or chunk i 0))) v
    ∙ ap (λ (j : Input). in_rooms W (read_byte j (get_or chunk i 0))) p
    ∙ rooms_byte W (read_bytes I₀ (take i chunk)) (get_or chunk i 0)
    ∙ ap (in_rooms W) (sym (in_chunks I₀ (take i chunk) (get_or chunk i 0 ∷ [])))
    ∙ ap (λ (t : List ℕ). in_rooms W (read_bytes I₀ t)) (sym (take-suc chunk i 0 h) ∙ ap (λ (n : ℕ). take n chunk) (sym (add-one i)))
