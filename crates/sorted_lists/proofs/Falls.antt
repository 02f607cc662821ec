-- Labels that do not fall, by their places and among those of one label.
use mathlib.Core.Path.{◌≡◌, refl, ap}
use mathlib.Core.Bool.{Bool, true, false}
use mathlib.Core.List.Memᴰ.{head as here}
use mathlib.Core.List.Memᴰ.{tail as there}
use mathlib.Core.List.{List, [], ◌∷◌, map, Memᴰ as In}
use Prim.Native.Nat.{ℕ, zero, suc, ◌+◌, ◌-◌, ◌≤◌, ◌<◌}
use native.Mathlib.Nat.{add-zero, sub-zero}
use native.Mathlib.Omega.{arith}
use lib.Dec.{eqb, leb}
use lib.ListN.{length, get_or}
use borrow.Author.Tests.{eqb-true, eqb-false, leb-true, le-leb, ne_eqb}
use Rattle.lists.specs.Lists.{put_if, keep_if, interval}
use Rattle.lists.proofs.Members.{and_left, and_right}
use Rattle.words.specs.Machines.{no_fall}

-- a turn
pub fall_turn : (low x : ℕ) (xs : List ℕ) → no_fall low (x ∷ xs) ≡ true → (low ≤ x) × (no_fall x xs ≡ true)
unfolding no_fall
fall_turn low x xs e = (leb-true low x (and_left (leb low x) (no_fall x xs) e), and_right (leb low x) (no_fall x xs) e)

pub fall_make : (low x : ℕ) (xs : List ℕ) → low ≤ x → no_fall x xs ≡ true → no_fall low (x ∷ xs) ≡ true
unfolding no_fall
fall_make low x xs h e = rw (le-leb low x h, e)

-- a lower bound
pub fall_lower : (a b : ℕ) (l : List ℕ) → a ≤ b → no_fall b l ≡ true → no_fall a l ≡ true
unfolding no_fall
fall_lower a b [] h e = refl
fall_lower a b (x ∷ xs) h e = let p = fall_turn b x xs e in fall_make a x xs (omega (arith, p.0)) p.1

pub fall_least : (low : ℕ) (l : List ℕ) → no_fall low l ≡ true → (i : ℕ) → i < length l → low ≤ get_or l i 0
fall_least low [] e i h = absurd (omega arith)
fall_least low (x ∷ xs) e zero h = (fall_turn low x xs e).0
fall_least low (x ∷ xs) e (suc i) h = let p = fall_turn low x xs e in let q = fall_least x xs p.1 i (omega arith) in omega (arith, p.0, q)

-- by places: a later label is no smaller
pub fall_places : (low : ℕ) (l : List ℕ) → no_fall low l ≡ true → (i j : ℕ) → i ≤ j → j < length l → get_or l i 0 ≤ get_or l j 0
fall_places low [] e i j h k = absurd (omega arith)
fall_places low (x ∷ xs) e zero zero h k = omega arith
fall_places low (x ∷ xs) e zero (suc j) h k = fall_least x xs (fall_turn low x xs e).1 j (omega arith)
fall_places low (x ∷ xs) e (suc i) zero h k = absurd (omega arith)
fall_places low (x ∷ xs) e (suc i) (suc j) h k = fall_places x xs (fall_turn low x xs e).1 i j (omega arith) (omega arith)

-- none is kept
pub keep_none : (P : ℕ → Bool) (l : List ℕ) → ((u : ℕ) → In u l → P u ≡ false) → keep_if P l ≡ []
unfolding keep_if
keep_none P [] h = refl
keep_none P (u ∷ us) h = rw (h u (here refl)) (keep_none P us (λ v i. h v (there i)))

module _ (f : ℕ → ℕ) where
  -- all labels are above x: none is x
  pub none_above : (x low : ℕ) (l : List ℕ) → x < low → no_fall low (map f l) ≡ true → keep_if (λ u. eqb (f u) x) l ≡ []
  unfolding keep_if
  none_above x low [] h e = refl
  none_above x low (u ∷ us) h e =
      let p = fall_turn low (f u) (map f us) e in
      rw (ne_eqb (f u) x (λ z. omega (arith, z, p.0, h))) (none_above x (f u) us (omega (arith, p.0, h)) p.1)

  -- the least label comes first: of the first so many records, each has it
  pub least_first : (x : ℕ) (l : List ℕ) → no_fall x (map f l) ≡ true → (i : ℕ) → i < length (keep_if (λ u. eqb (f u) x) l) → f (get_or l i 0) ≡ x
  unfolding keep_if
  least_first x [] e i h = absurd (omega arith)
  least_first x (u ∷ us) e i h = let p = fall_turn x (f u) (map f us) e in go (eqb (f u) x) refl p i h (λ n j k. least_first x us n j k)
    where
      go : (b : Bool) → eqb (f u) x ≡ b → (x ≤ f u) × (no_fall (f u) (map f us) ≡ true) → (i : ℕ) → i < length (put_if b u (keep_if (λ v. eqb (f v) x) us))
          → (no_fall x (map f us) ≡ true → (j : ℕ) → j < length (keep_if (λ v. eqb (f v) x) us) → f (get_or us j 0) ≡ x) → f (get_or (u ∷ us) i 0) ≡ x
      go true b p zero h rec = eqb-true (f u) x b
      go true b p (suc i) h rec = rec (rw (eqb-true (f u) x b) at p.1) i (omega arith)
      go false b p i h rec =
          let n = eqb-false (f u) x b in
          let z : length (keep_if (λ v. eqb (f v) x) us) ≡ 0 = ap length (none_above x (f u) us (omega (arith, n, p.0)) p.1) in
          absurd (omega (arith, z, h))

  -- consecutive records: those below x are passed over
  pub keep_past : (x k a n : ℕ) → k ≤ n → ((i : ℕ) → i < k → f (a + i) < x) → keep_if (λ u. eqb (f u) x) (interval a n) ≡ keep_if (λ u. eqb (f u) x) (interval (a + k) (n - k))
  unfolding keep_if interval
  keep_past x zero a n h b = rw (add-zero a, sub-zero n)
  keep_past x (suc k) a zero h b = absurd (omega arith)
  keep_past x (suc k) a (suc n) h b =
      let z : a + 0 ≡ a = omega arith in
      let p : f a < x = rw z at (b 0 (omega arith)) in
      let s : suc a + k ≡ a + suc k = omega arith in
      let d : suc n - suc k ≡ n - k = omega arith in
      rw (ne_eqb (f a) x (λ e. omega (arith, p, e)), ← s, d) (keep_past x k (suc a) n (omega arith) (λ i l. let t : a + suc i ≡ suc a + i = omega arith in rw t at (b (suc i) (omega arith))))
