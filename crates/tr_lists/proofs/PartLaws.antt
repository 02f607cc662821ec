-- A part of a slice: what a part asked past the end leaves is the part cut at the end.
use mathlib.Core.Path.{◌≡◌, sym, ◌∙◌}
use mathlib.Core.List.{List}
use Prim.Native.Nat.{ℕ, ◌-◌, ◌<◌, min}
use native.Mathlib.Omega.{arith}
use native.Mathlib.Decide.{dec_lt}
use lib.ListN.{length, take, drop, length-drop, drop_of_length-le}
use lib.Seq.{take_all, take-nil}

take_cut : (l : List ℕ) (k : ℕ) → take (min k (length l)) l ≡ take k l
take_cut l k = go (dec_lt k (length l))
  where
    go : Dec (k < length l) → take (min k (length l)) l ≡ take k l
    go (yes h) = let e : min k (length l) ≡ k = omega arith in rw e
    go (no h) = let e : min k (length l) ≡ length l = omega arith in rw e (take_all (length l) l (omega arith) ∙ sym (take_all k l (omega arith)))

pub part_cut : (l : List ℕ) (a k : ℕ) → take (min k (length l - min a (length l))) (drop (min a (length l)) l) ≡ take k (drop a l)
part_cut l a k = go (dec_lt a (length l))
  where
    go : Dec (a < length l) → take (min k (length l - min a (length l))) (drop (min a (length l)) l) ≡ take k (drop a l)
    go (yes h) = let e : min a (length l) ≡ a = omega arith in rw (e, ← length-drop a l) (take_cut (drop a l) k)
    go (no h) =
        let e : min a (length l) ≡ length l = omega arith in
        rw (e, drop_of_length-le l {i = length l} (omega arith), drop_of_length-le l {i = a} (omega arith)) (take-nil (min k (length l - length l)) ∙ sym (take-nil k))
