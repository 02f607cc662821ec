-- A chunk read after others: some bytes came, whatever the chunks.
use mathlib.Core.Path.{◌≡◌, refl, sym, ap, ◌∙◌, subst}
use mathlib.Core.Bool.{Bool, true, false, ◌&&◌, false≢true}
use mathlib.Core.Logic.{inl, inr}
use mathlib.Core.List.{List, [], ◌∷◌, ◌++◌}
use Prim.Native.Nat.{ℕ, ◌<◌, ◌≤◌}
use native.Mathlib.Omega.{arith}
use lib.Dec.{ltb}
use lib.ListN.{length, take}
use Rattle.std.specs.Prelude.{IfSome, None, Some, ⊤}
use Rattle.std.specs.declared.option.Option.{Option}
use Rattle.std.proofs.lemmas.Bool.{ltb-false}
use Rattle.std.proofs.lemmas.List.{append_assoc, append-nil}
use Rattle.listing_text.specs.Chunks.{Input, Rooms, unread, read_bytes, in_rooms}
use Rattle.listing_text.proofs.Chunks.{next_chunk}
use Rattle.listing_read.specs.Meaning.{read_input, rooms_of, new_reader}
use Rattle.listing_read.specs.declared.Reader.{Reader}
use Rattle.listing_read.proofs.InputLaws.{input_within}
use Rattle.listing_input.specs.Read.{handed_on, reads_on, Reads, Took, IsReadOf, ReadsFrom}

-- before the first byte
pub none_came : (r : Reader) (s f g q : List ℕ) → r ≡ new_reader → Reads (rooms_of s f g q) (read_input r s f g q)
unfolding read_bytes
none_came r s f g q e = ([], ap (λ (x : Reader). read_input x s f g q) e ∙ input_within new_reader s f g q)

-- what came after what was read
chunk_on : (W W₀ : Rooms) (I I' : Input) (bytes chunk : List ℕ) → W ≡ W₀ → I ≡ in_rooms W₀ (read_bytes unread bytes) → I' ≡ in_rooms W (read_bytes I chunk)
    → I' ≡ in_rooms W₀ (read_bytes unread (bytes ++ chunk))
chunk_on W W₀ I I' bytes chunk w h e = e ∙ (λ k. in_rooms (w k) (read_bytes (h k) chunk)) ∙ next_chunk W₀ unread bytes chunk

-- a chunk more
pub more_came : (W W₀ : Rooms) (I I' : Input) (chunk : List ℕ) → Reads W₀ I → W ≡ W₀ → I' ≡ in_rooms W (read_bytes I chunk) → Reads W₀ I'
more_came W W₀ I I' chunk h w e = (h.0 ++ chunk, chunk_on W W₀ I I' h.0 chunk w h.1 e)

-- what is known of an input before and after some reads: its bytes are those read, and those left
abbrev pub SoFar : Option (List ℕ) → Option (List ℕ) → Rooms → Input → Type 0
SoFar None new rooms i = ⊤
SoFar (Some xs) None rooms i = ⊥
SoFar (Some xs) (Some ys) rooms i = (bytes : List ℕ) × (xs ≡ bytes ++ ys) × (i ≡ in_rooms rooms (read_bytes unread bytes))

none_came_lem : (k : ℕ) → ltb 0 k ≡ false → k ≡ 0
none_came_lem k e = let h : k ≤ 0 = ltb-false 0 k e in omega arith

pub none_so_far : (known : Option (List ℕ)) (r : Reader) (s f g q : List ℕ) → r ≡ new_reader → SoFar known known (rooms_of s f g q) (read_input r s f g q)
unfolding read_bytes
none_so_far None r s f g q e = tt
none_so_far (Some xs) r s f g q e = ([], refl, ap (λ (x : Reader). read_input x s f g q) e ∙ input_within new_reader s f g q)

split_on : (xs bytes ys chunk zs : List ℕ) → xs ≡ bytes ++ ys → ys ≡ chunk ++ zs → xs ≡ (bytes ++ chunk) ++ zs
split_on xs bytes ys chunk zs e f = e ∙ ap (λ (l : List ℕ). bytes ++ l) f ∙ sym (append_assoc bytes chunk zs)

-- a read after which the loop goes on
pub more_so_far : (known old new : Option (List ℕ)) (W W₀ : Rooms) (I I' : Input) (lines at : ℕ) (got : Option ℕ) (chunk : List ℕ) → SoFar known old W₀ I → Took old new got chunk → reads_on lines at got ≡ true
    → W ≡ W₀ → I' ≡ in_rooms W (read_bytes I (handed_on got chunk)) → SoFar known new W₀ I'
more_so_far None old new W W₀ I I' lines at got chunk h t o w e = tt
more_so_far (Some xs) None new W W₀ I I' lines at got chunk h t o w e = absurd h
more_so_far (Some xs) (Some ys) None W W₀ I I' lines at (Some k) chunk h t o w e = absurd t.0
more_so_far (Some xs) (Some ys) (Some zs) W W₀ I I' lines at (Some k) chunk h t o w e =
    (h.0 ++ take k chunk, split_on xs h.0 ys (take k chunk) zs h.1 t.0, chunk_on W W₀ I I' h.0 (take k chunk) w h.2 e)
more_so_far (Some xs) (Some ys) new W W₀ I I' lines at None chunk h t o w e = absurd (false≢true o)

-- a byte of no word after what was read
pub spoiled : (known old : Option (List ℕ)) (W W₀ : Rooms) (I I' : Input) (lines : ℕ) → SoFar known old W₀ I → W ≡ W₀ → I' ≡ in_rooms W (read_bytes I (33 ∷ []))
    → IfSome known (λ xs. ReadsFrom lines xs W₀ I')
spoiled None old W W₀ I I' lines h w e = tt
spoiled (Some xs) None W W₀ I I' lines h w e = absurd h
spoiled (Some xs) (Some ys) W W₀ I I' lines h w e = (h.0 ++ (33 ∷ []), inr (inr (h.0, ys, h.1, refl)), chunk_on W W₀ I I' h.0 (33 ∷ []) w h.2 e)

-- a read after which the loop ends
pub last_read : (known old new : Option (List ℕ)) (W W₀ : Rooms) (I I' : Input) (lines : ℕ) (got : Option ℕ) (chunk : List ℕ) → 0 < length chunk → SoFar known old W₀ I → Took old new got chunk
    → reads_on lines I'.at got ≡ false → W ≡ W₀ → I' ≡ in_rooms W (read_bytes I (handed_on got chunk)) → IfSome known (λ xs. ReadsFrom lines xs W₀ I')
last_read None old new W W₀ I I' lines got chunk m h t o w e = tt
last_read (Some xs) None new W W₀ I I' lines got chunk m h t o w e = absurd h
last_read (Some xs) (Some ys) new W W₀ I I' lines None chunk m h t o w e = spoiled (Some xs) (Some ys) W W₀ I I' lines h w e
last_read (Some xs) (Some ys) None W W₀ I I' lines (Some k) chunk m h t o w e = absurd t.0
last_read (Some xs) (Some ys) (Some zs) W W₀ I I' lines (Some k) chunk m h t o w e = (h.0 ++ take k chunk, go (ltb I'.at lines) refl, e')
  where
    e' : I' ≡ in_rooms W₀ (read_bytes unread (h.0 ++ take k chunk))
    e' = chunk_on W W₀ I I' h.0 (take k chunk) w h.2 e

    x : xs ≡ (h.0 ++ take k chunk) ++ zs
    x = split_on xs h.0 ys (take k chunk) zs h.1 t.0

    go : (b : Bool) → ltb I'.at lines ≡ b → IsReadOf lines xs (h.0 ++ take k chunk)
    go false b = inr (inl (zs, x, subst (λ (n : ℕ). lines ≤ n) (ap (λ (j : Input). j.at) e') (ltb-false I'.at lines b)))
    go true b =
        let z : k ≡ 0 = none_came_lem k (sym (ap (λ (y : Bool). y && ltb 0 k) b) ∙ o) in
        inl (sym (append-nil (h.0 ++ take k chunk)) ∙ ap (λ (l : List ℕ). (h.0 ++ take k chunk) ++ l) (sym (t.1 z m)) ∙ sym x)
