-- Fields and words after a chunk, byte by byte.
use mathlib.Core.Path.{◌≡◌, refl, sym, ap, ◌∙◌}
use mathlib.Core.List.{List, [], ◌∷◌, ◌++◌}
use Prim.Native.Nat.{ℕ, ◌+◌, ◌<◌}
use native.Mathlib.Numerals.{add-one}
use lib.ListN.{length, take, get_or}
use lib.Seq.{take-suc}
use Rattle.listing_read.specs.Held.{Held, held_byte, held_bytes}

-- a byte more after others
after_byte : (h : Held) (xs : List ℕ) (b : ℕ) → held_bytes h (xs ++ (b ∷ [])) ≡ held_byte (held_bytes h xs) b
unfolding held_bytes
after_byte h [] b = refl
after_byte h (x ∷ xs) b = after_byte (held_byte h x) xs b

-- one byte more of a chunk, of which i bytes are read
pub held_more : (h₀ h h' : Held) (chunk : List ℕ) (i : ℕ) → i < length chunk → h ≡ held_bytes h₀ (take i chunk) → h' ≡ held_byte h (get_or chunk i 0) → h' ≡ held_bytes h₀ (take (i + 1) chunk)
held_more h₀ h h' chunk i t p q =
    q
    ∙ ap (λ (x : Held). held_byte x (get_or chunk i 0)) p
    ∙ sym (after_byte h₀ (take i chunk) (get_or chunk i 0))
    ∙ ap (held_bytes h₀) (sym (take-suc chunk i 0 t) ∙ ap (λ (n : ℕ). take n chunk) (sym (add-one i)))
