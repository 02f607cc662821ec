-- What is in a list that was joined or kept from, how long it is, and what holds for every one of a list. Of _++_ and map the library has it.
use mathlib.Core.Path.{◌≡◌, refl, ◌∙◌, ap, ap₂}
use mathlib.Core.Bool.{Bool, true, false, cond, ◌&&◌, ◌||◌, and-eq-true_iff, true≢false}
use mathlib.Core.List.Memᴰ
use mathlib.Core.List.Memᴰ.{head as here}
use mathlib.Core.List.Memᴰ.{tail as there}
use mathlib.Core.List.{List, [], ◌∷◌, flat_map, Memᴰ as In}
use mathlib.Core.Logic.{◌⊎◌, inl, inr, ⊎_elim}
use Prim.Native.Nat.{ℕ, zero, suc, ◌+◌, ◌≤◌, ◌<◌}
use native.Mathlib.Omega.{arith}
use native.Mathlib.Decide.{ℕ_discrete}
use lib.ListN.{length}
use Rattle.lists.specs.Lists.{put_if, keep_if, every, interval}

-- the halves of an `&&` that is true, by the library's `and-eq-true_iff`
pub and_left : (a b : Bool) → a && b ≡ true → a ≡ true
and_left a b e = ((and-eq-true_iff a b).0 e).0

pub and_right : (a b : Bool) → a && b ≡ true → b ≡ true
and_right a b e = ((and-eq-true_iff a b).0 e).1

-- the halves of an `||` that is true; the library's `or-eq-true_iff` does not say which
pub or_cases : (a b : Bool) → a || b ≡ true → (a ≡ true) ⊎ (b ≡ true)
or_cases true b e = inl refl
or_cases false b e = inr e

-- and of one that is false
pub or_false : (a b : Bool) → a || b ≡ false → (a ≡ false) × (b ≡ false)
or_false true b e = absurd (true≢false e)
or_false false b e = (refl, e)

pub or_left : (a b : Bool) → a ≡ true → a || b ≡ true
or_left true b e = refl
or_left false b e = cc

pub or_right : (a b : Bool) → b ≡ true → a || b ≡ true
or_right true b e = refl
or_right false b e = e

pub in_flat : {A B : Type 0} (g : A → List B) {a : A} {l : List A} {b : B} → In a l → In b (g a) → In b (flat_map g l)
unfolding flat_map
in_flat g (here e) i = Memᴰ.append_left _ (rw e at i)
in_flat g (there {x = x} h) i = Memᴰ.append_right (g x) (in_flat g h i)

pub of_flat : {A B : Type 0} (g : A → List B) (l : List A) {b : B} → In b (flat_map g l) → (a : A) × In a l × In b (g a)
unfolding flat_map
of_flat g [] h = absurd (Memᴰ.not-nil h)
of_flat g (x ∷ xs) h = ⊎_elim (λ i. (x, here refl, i)) (λ i. let r = of_flat g xs i in (r.0, there r.1, r.2)) (Memᴰ.append_cases (g x) h)

in_put : {A : Type 0} (b : Bool) (x : A) {a : A} {l : List A} → In a l → In a (put_if b x l)
in_put true x i = there i
in_put false x i = i

pub in_keep : {A : Type 0} (P : A → Bool) {a : A} {l : List A} → In a l → P a ≡ true → In a (keep_if P l)
unfolding keep_if
in_keep P (here e) p = rw (← e, p) (here refl)
in_keep P (there {x = x} h) p = in_put (P x) x (in_keep P h p)

pub of_keep : {A : Type 0} (P : A → Bool) (l : List A) {a : A} → In a (keep_if P l) → In a l × (P a ≡ true)
unfolding keep_if
of_keep P [] h = absurd (Memᴰ.not-nil h)
of_keep P (x ∷ xs) {a} h = go (P x) refl h (λ i. of_keep P xs i)
  where
    old : In a xs × (P a ≡ true) → In a (x ∷ xs) × (P a ≡ true)
    old r = (there r.0, r.1)

    go : (b : Bool) → P x ≡ b → In a (put_if b x (keep_if P xs)) → (In a (keep_if P xs) → In a xs × (P a ≡ true)) → In a (x ∷ xs) × (P a ≡ true)
    go true e i rec = ⊎_elim (λ d. (here d, ap P d ∙ e)) (λ j. old (rec j)) (Memᴰ.cases_cons i)
    go false e i rec = old (rec i)

pub every_in : {A : Type 0} (P : A → Bool) {a : A} {l : List A} → every P l ≡ true → In a l → P a ≡ true
unfolding every
every_in P h (here {x = x} e) = ap P e ∙ and_left (P x) _ h
every_in P h (there {x = x} i) = every_in P (and_right (P x) _ h) i

pub every_of : {A : Type 0} (P : A → Bool) (l : List A) → ((a : A) → In a l → P a ≡ true) → every P l ≡ true
unfolding every
every_of P [] h = refl
every_of P (x ∷ xs) h = (and-eq-true_iff (P x) (every P xs)).1 (h x (here refl), every_of P xs (λ a i. h a (there i)))

-- two tests that agree on the list
pub every_same : {A : Type 0} (P Q : A → Bool) (l : List A) → ((a : A) → In a l → P a ≡ Q a) → every P l ≡ every Q l
unfolding every
every_same P Q [] h = refl
every_same P Q (x ∷ xs) h = ap₂ (λ a b. a && b) (h x (here refl)) (every_same P Q xs (λ a i. h a (there i)))

-- the numbers of an interval are those from s up to s + n
pub in_interval : (s n i : ℕ) → s ≤ i → i < s + n → In i (interval s n)
unfolding interval
in_interval s zero i h l = absurd (omega arith)
in_interval s (suc n) i h l = go (ℕ_discrete i s) (λ a b. in_interval (suc s) n i a b)
  where
    go : Dec (i ≡ s) → (suc s ≤ i → i < suc s + n → In i (interval (suc s) n)) → In i (s ∷ interval (suc s) n)
    go (yes e) rec = here e
    go (no d) rec = there (rec (omega arith) (omega arith))

pub of_interval : (s n : ℕ) {i : ℕ} → In i (interval s n) → (s ≤ i) × (i < s + n)
unfolding interval
of_interval s zero h = absurd (Memᴰ.not-nil h)
of_interval s (suc n) {i} h = ⊎_elim (λ e. (omega arith, omega arith)) (λ j. let r = of_interval (suc s) n j in (omega arith, omega arith)) (Memᴰ.cases_cons h)

-- one more, if it is put in front
pub put_length : {A : Type 0} (b : Bool) (x : A) (l : List A) → length (put_if b x l) ≡ cond b 1 0 + length l
put_length true x l = omega arith
put_length false x l = omega arith

-- no more are kept than there are
pub keep_length : {A : Type 0} (P : A → Bool) (l : List A) → length (keep_if P l) ≤ length l
unfolding keep_if
keep_length P [] = omega arith
keep_length P (x ∷ xs) = go (P x) (keep_length P xs)
  where
    go : (b : Bool) → length (keep_if P xs) ≤ length xs → length (put_if b x (keep_if P xs)) ≤ length (x ∷ xs)
    go true h = omega (arith, h)
    go false h = omega (arith, h)
