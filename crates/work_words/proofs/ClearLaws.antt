-- Zeros written from the front on, up to the end of the slice.
use mathlib.Core.Path.{◌≡◌, refl, sym, ◌∙◌}
use mathlib.Core.List.{List, [], ◌∷◌, ◌++◌}
use Prim.Native.Nat.{ℕ, suc, ◌+◌, ◌-◌, ◌≤◌, min}
use native.Mathlib.Omega.{arith}
use native.Mathlib.Decide.{dec_le}
use lib.ListN.{length, drop, replicate, length-replicate, drop_of_length-le}
use lib.Seq.{set_out, sets-eq}
use Rattle.std.proofs.lemmas.List.{append-nil, replicate-append-replicate}
use Rattle.lists.specs.Lists.{put}
use Rattle.lists.proofs.Put.{put_put, put_whole}

-- nothing is written past the end
put_out : (s : List ℕ) (at : ℕ) (r : List ℕ) → length s ≤ at → put s at r ≡ s
unfolding put
put_out s at [] h = refl
put_out s at (x ∷ r) h = rw (set_out s at x h) (put_out s (suc at) r (omega arith))

-- as many as there are words
put_zeros : (s : List ℕ) (count : ℕ) → count ≤ length s → put s 0 (replicate count 0) ≡ replicate count 0 ++ drop count s
unfolding put
put_zeros s count h =
    let r : List ℕ = replicate count 0 in
    let z : 0 + length r ≡ count = omega (arith, length-replicate {A = ℕ} count 0) in
    rw (sets-eq r s 0 (rw z h), z) refl

pub zeros_put : (s : List ℕ) (count end : ℕ) → end ≡ min count (length s) → replicate end 0 ++ drop end s ≡ put s 0 (replicate count 0)
zeros_put s count end e = go (dec_le count (length s))
  where
    go : Dec (count ≤ length s) → replicate end 0 ++ drop end s ≡ put s 0 (replicate count 0)
    go (yes h) = let k : end ≡ count = omega arith in rw k (sym (put_zeros s count h))
    go (no h) =
        let k : end ≡ length s = omega arith in
        let more : length s + (count - length s) ≡ count = omega arith in
        let whole : put s 0 (replicate (length s) 0) ≡ replicate (length s) 0 = put_whole s (replicate (length s) 0) (sym (length-replicate (length s) 0)) in
        let past = put_put s 0 (replicate (length s) 0) (replicate (count - length s) 0) in
        let all = rw (replicate-append-replicate, more, whole) at past in
        rw (k, drop_of_length-le s {i = length s} (omega arith), append-nil) (sym (put_out (replicate (length s) 0) _ (replicate (count - length s) 0) (omega arith)) ∙ all)
