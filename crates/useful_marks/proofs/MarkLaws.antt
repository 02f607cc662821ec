-- One turn of each loop on work words, and its end.
use mathlib.Core.Path.{◌≡◌, refl}
use mathlib.Core.List.{List}
use Prim.Native.Nat.{ℕ, zero, suc, ◌+◌, ◌-◌, ◌*◌, ◌≤◌, ◌<◌}
use native.Mathlib.Omega.{arith}
use lib.ListN.{get_or}
use borrow.Author.Tests.{le-leb, lt-leb}
use Rattle.searches.specs.WorkWords.{middle, with_high}
use Rattle.searches.specs.UsefulSearch.{merged_to, settled_of}

pub merge_stops : (ws : List ℕ) (place n : ℕ) → 0 < n → middle (get_or ws (2 * (n - 1) + 1) 0) ≤ place → merged_to ws place n ≡ n
unfolding merged_to
merge_stops ws place zero h e = absurd (omega arith)
merge_stops ws place (suc n) h e = let z : suc n - 1 ≡ n = omega arith in rw (le-leb _ _ (rw z at e)) refl

pub merge_turn : (ws : List ℕ) (place n : ℕ) → 0 < n → place < middle (get_or ws (2 * (n - 1) + 1) 0) → merged_to ws place (n - 1) ≡ merged_to ws place n
unfolding merged_to
merge_turn ws place zero h e = absurd (omega arith)
merge_turn ws place (suc n) h e = let z : suc n - 1 ≡ n = omega arith in rw (z, lt-leb _ _ (rw z at e)) refl

pub merge_none : (ws : List ℕ) (place n : ℕ) → n ≡ 0 → merged_to ws place n ≡ 0
unfolding merged_to
merge_none ws place zero e = refl
merge_none ws place (suc n) e = absurd (omega arith)

pub settle_turn : (ws : List ℕ) (v p to : ℕ) → p < to → settled_of (with_high ws (2 * middle (get_or ws (2 * p) 0)) v) v (p + 1) (to - (p + 1)) ≡ settled_of ws v p (to - p)
unfolding settled_of
settle_turn ws v p to h = let a : to - p ≡ suc (to - (p + 1)) = omega arith in let b : p + 1 ≡ suc p = omega arith in rw (a, b) refl

pub settle_done : (ws : List ℕ) (v p to : ℕ) → to ≤ p → settled_of ws v p (to - p) ≡ ws
unfolding settled_of
settle_done ws v p to h = let a : to - p ≡ 0 = omega arith in rw a refl
