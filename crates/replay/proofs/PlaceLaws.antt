-- The place after a byte, by the code's tests, and after a chunk of which i bytes were read.
use mathlib.Core.Path.{◌≡◌, refl, sym, ap, ◌∙◌}
use mathlib.Core.List.{List, [], ◌∷◌, ◌++◌}
use Prim.Native.Nat.{ℕ, ◌+◌, ◌≤◌, ◌<◌}
use native.Mathlib.Numerals.{add-one}
use lib.ListN.{length, take, get_or}
use lib.Seq.{take-suc, take_all}
use Rattle.replay.specs.declared.cases.Place.{Place}
use Rattle.replay.specs.Places.{place_byte, place_after}

after_byte : (n : ℕ) (p : Place) (bs : List ℕ) (b : ℕ) → place_after n p (bs ++ (b ∷ [])) ≡ place_byte n (place_after n p bs) b
unfolding place_after
after_byte n p [] b = refl
after_byte n p (x ∷ xs) b = after_byte n (place_byte n p x) xs b

pub none_read : (n : ℕ) (p : Place) → place_after n p [] ≡ p
unfolding place_after
none_read n p = refl

-- one byte more
pub one_more : (n : ℕ) (p₀ p q : Place) (chunk : List ℕ) (i : ℕ) → i < length chunk → p ≡ place_after n p₀ (take i chunk) → q ≡ place_byte n p (get_or chunk i 0) → q ≡ place_after n p₀ (take (i + 1) chunk)
one_more n p₀ p q chunk i t e h =
    h
    ∙ (ap (λ (x : Place). place_byte n x (get_or chunk i 0)) e
    ∙ (sym (after_byte n p₀ (take i chunk) (get_or chunk i 0))
    ∙ ap (place_after n p₀) (sym (take-suc chunk i 0 t) ∙ ap (λ (k : ℕ). take k chunk) (sym (add-one i)))))

pub all_read : (n : ℕ) (p₀ p : Place) (chunk : List ℕ) (i : ℕ) → length chunk ≤ i → p ≡ place_after n p₀ (take i chunk) → p ≡ place_after n p₀ chunk
all_read n p₀ p chunk i t e = e ∙ ap (place_after n p₀) (take_all i chunk t)
