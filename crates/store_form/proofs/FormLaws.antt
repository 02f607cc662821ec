-- Tests of form in the order of the code.
use mathlib.Core.Path.{◌≡◌, refl, ap, sym, ◌∙◌}
use mathlib.Core.Bool.{Bool, true, cond, not, ◌&&◌, ◌||◌}
use mathlib.Core.List.{List, [], ◌∷◌}
use Prim.Native.Nat.{ℕ, zero, suc, ◌+◌, ◌≤◌, ◌<◌}
use native.Mathlib.Numerals.{add-one}
use native.Mathlib.Omega.{arith}
use lib.Dec.{eqb, leb}
use lib.ListN.{length, get_or, drop, drop_of_length-le}
use lib.Seq.{drop-cons}
use borrow.Author.Tests.{le-leb, lt-leb, ne_eqb}
use Rattle.lists.specs.Lists.{every}
use Rattle.words.specs.Sides.{non_empty}

-- what is left of a list from place i on: the word there and what is left after it
pub rest_turn : (P : ℕ → Bool) (l : List ℕ) (i : ℕ) → i < length l → every P (drop i l) ≡ P (get_or l i 0) && every P (drop (i + 1) l)
unfolding every
rest_turn P l i h = ap (every P) (drop-cons l i 0 h) ∙ ap (λ (k : ℕ). P (get_or l i 0) && every P (drop k l)) (sym (add-one i))

pub rest_end : (P : ℕ → Bool) (l : List ℕ) (i : ℕ) → length l ≤ i → every P (drop i l) ≡ true
unfolding every
rest_end P l i h = ap (every P) (drop_of_length-le l {i = i} h)

-- a list is not empty where its length is not 0
pub non_empty_lem : (l : List ℕ) → non_empty l ≡ not (eqb (length l) 0)
non_empty_lem [] = refl
non_empty_lem (x ∷ xs) = rw (ne_eqb (length (x ∷ xs)) 0 (λ e. omega arith))

-- a word of expansion at most 1, and a first at most the largest that it may be
pub expanded_test : (e f last : ℕ) → leb e 1 && leb f (cond (eqb e 0) 0 last) ≡ leb e 1 && ((eqb e 1 || eqb f 0) && leb f last)
expanded_test zero zero last = rw (le-leb 0 last (omega arith))
expanded_test zero (suc f) last = rw (ne_eqb (suc f) 0 (λ e. omega arith), lt-leb (suc f) 0 (omega arith))
expanded_test (suc zero) f last = refl
expanded_test (suc (suc e)) f last = rw (lt-leb (suc (suc e)) 1 (omega arith))
