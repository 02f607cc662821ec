-- Laws of `put`: a run of words written from an index on.
use mathlib.Core.Path.{◌≡◌, refl, ap, ◌∙◌}
use mathlib.Core.List.{List, [], ◌∷◌, ◌++◌, append-nil}
use Prim.Native.Nat.{ℕ, suc, ◌+◌, ◌-◌, ◌≤◌, ◌<◌}
use native.Mathlib.Nat.{add-zero}
use native.Mathlib.Omega.{arith}
use lib.ListN.{length, take, drop, get_or, set, length-set, drop_of_length-le}
use lib.Seq.{sets, length-sets, get_or-set_same, get_or-set_other, set_comm, sets-eq, set-append_left, drop-set-add, take-set-lt, take-set-le, drop-set-lt}
use borrow.Rule.Slice.PartMut.{put_mid, mid_of, put_same}
use Rattle.lists.specs.Lists.{put}

-- the length stays
pub length_put : (s : List ℕ) (at : ℕ) (r : List ℕ) → length (put s at r) ≡ length s
unfolding put
length_put s at r = length-sets s at r

-- nothing written, nothing changed
pub put_none : (s : List ℕ) (at : ℕ) → put s at [] ≡ s
unfolding put
put_none s at = refl

-- two runs, one after the other, are one
pub put_put : (s : List ℕ) (at : ℕ) (r q : List ℕ) → put (put s at r) (at + length r) q ≡ put s at (r ++ q)
unfolding put
put_put s at [] q = ap (λ (k : ℕ). sets s k q) (add-zero at)
put_put s at (x ∷ r) q = ap (λ (k : ℕ). sets (sets (set s at x) (suc at) r) k q) (omega arith) ∙ put_put (set s at x) (suc at) r q

-- a run that fits the first of two joined lists is written there
pub put_append : (s t : List ℕ) (at : ℕ) (r : List ℕ) → at + length r ≤ length s → put (s ++ t) at r ≡ put s at r ++ t
unfolding put
put_append s t at [] h = refl
put_append s t at (x ∷ r) h = ap (λ (l : List ℕ). sets l (suc at) r) (set-append_left s t at x (omega arith)) ∙ put_append (set s at x) t (suc at) r (simp length-set (omega arith))

-- a word before the run
pub put_before : (s : List ℕ) (at : ℕ) (r : List ℕ) (i d : ℕ) → i < at → get_or (put s at r) i d ≡ get_or s i d
unfolding put
put_before s at [] i d h = refl
put_before s at (x ∷ r) i d h = put_before (set s at x) (suc at) r i d (omega arith) ∙ get_or-set_other s at i x d (omega arith)

-- a word after the run
pub put_after : (s : List ℕ) (at : ℕ) (r : List ℕ) (i d : ℕ) → at + length r ≤ i → get_or (put s at r) i d ≡ get_or s i d
unfolding put
put_after s at [] i d h = refl
put_after s at (x ∷ r) i d h = put_after (set s at x) (suc at) r i d (omega arith) ∙ get_or-set_other s at i x d (omega arith)

-- a word of the run
pub put_in : (s : List ℕ) (at : ℕ) (r : List ℕ) (i d : ℕ) → i < length r → at + length r ≤ length s → get_or (put s at r) (at + i) d ≡ get_or r i d
unfolding put
put_in s at [] i d h f = absurd (omega arith)
put_in s at (x ∷ r) ℕ.zero d h f =
    ap (λ (k : ℕ). get_or (sets (set s at x) (suc at) r) k d) (add-zero at)
    ∙ put_before (set s at x) (suc at) r at d (omega arith)
    ∙ get_or-set_same s at x d (omega arith)
put_in s at (x ∷ r) (suc i) d h f =
    ap (λ (k : ℕ). get_or (sets (set s at x) (suc at) r) k d) (omega arith)
    ∙ put_in (set s at x) (suc at) r i d (omega arith) (simp length-set (omega arith))

-- two runs that do not meet may change places
set_sets : (s : List ℕ) (at : ℕ) (x : ℕ) (b : ℕ) (r : List ℕ) → at < b → sets (set s at x) b r ≡ set (sets s b r) at x
set_sets s at x b [] h = refl
set_sets s at x b (y ∷ r) h = ap (λ (l : List ℕ). sets l (suc b) r) (set_comm s at b x y (λ e. omega (arith, e, h))) ∙ set_sets (set s b y) at x (suc b) r (omega arith)

pub put_swap : (s : List ℕ) (at : ℕ) (r : List ℕ) (b : ℕ) (q : List ℕ) → at + length r ≤ b → put (put s at r) b q ≡ put (put s b q) at r
unfolding put
put_swap s at [] b q h = refl
put_swap s at (x ∷ r) b q h = put_swap (set s at x) (suc at) r b q (omega arith) ∙ ap (λ (l : List ℕ). sets l (suc at) r) (set_sets s at x b q (omega arith))

-- a run over the whole list leaves nothing of it
pub put_whole : (s r : List ℕ) → length s ≡ length r → put s 0 r ≡ r
unfolding put
put_whole s r h = sets-eq r s 0 (omega (arith, h)) ∙ ap (λ (l : List ℕ). r ++ l) (drop_of_length-le s {i = 0 + length r} (omega (arith, h))) ∙ append-nil r

-- what a callee did to a lent part, said of the whole
pub put_part : (a k j : ℕ) (s r : List ℕ) → j + length r ≤ k → put_mid a k s (put (mid_of a k s) j r) ≡ put s (a + j) r
unfolding put
put_part a k j s [] h = put_same a k s
put_part a k j s (x ∷ r) h =
    let s' : List ℕ = set s (a + j) x in
    let in-k : j < k = omega arith in
    let mid : mid_of a k s' ≡ set (mid_of a k s) j x = rw (drop-set-add, take-set-lt) in
    let pre : take a s' ≡ take a s = take-set-le a s (a + j) x (omega arith) in
    let post : drop k (drop a s') ≡ drop k (drop a s) = rw (drop-set-add, drop-set-lt) in
    let whole : put_mid a k s' (sets (mid_of a k s') (suc j) r) ≡ sets s' (a + suc j) r = put_part a k (suc j) s' r (omega arith) in
    rw (← mid, ← pre, ← post) (whole ∙ ap (λ (n : ℕ). sets s' n r) (omega arith))

-- the same for a tail, `&mut s[a..]`, written from its front
pub put_tail : (a : ℕ) (s r : List ℕ) → a + length r ≤ length s → put_mid a (length s - a) s (put (mid_of a (length s - a) s) 0 r) ≡ put s a r
put_tail a s r h = put_part a (length s - a) 0 s r (omega arith) ∙ ap (λ (k : ℕ). put s k r) (add-zero a)

-- for a proof: what a callee ensures of the lent tail, said of the whole
pub put_back : (a : ℕ) (s last r : List ℕ) → last ≡ put (mid_of a (length s - a) s) 0 r → a + length r ≤ length s → put_mid a (length s - a) s last ≡ put s a r
put_back a s last r e h = rw e (put_tail a s r h)
