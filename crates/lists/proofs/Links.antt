-- The first of a list that passes a test, and the places along links that fall.
use mathlib.Core.Path.{◌≡◌, refl, sym, ◌∙◌, ap, ap₂}
use mathlib.Core.Bool.{Bool, true, false, true≢false}
use mathlib.Core.List.Memᴰ
use mathlib.Core.List.Memᴰ.{head as here}
use mathlib.Core.List.Memᴰ.{tail as there}
use mathlib.Core.List.{List, [], ◌∷◌, Memᴰ as In}
use mathlib.Core.Logic.{⊎_elim}
use Rattle.std.specs.Prelude.{Some}
use Rattle.std.proofs.lemmas.Option.{none-some, same_Some}
use Prim.Native.Nat.{ℕ, zero, suc, ◌-◌, ◌≤◌, ◌<◌}
use native.Mathlib.Omega.{arith}
use Rattle.lists.specs.Lists.{first_if, first, linked}

-- what is found is in the list and passes the test
pub first_sound : {A : Type 0} (P : A → Bool) (l : List A) (a : A) → first P l ≡ Some a → In a l × (P a ≡ true)
unfolding first
first_sound P [] a e = absurd (none-some _ e)
first_sound P (x ∷ xs) a e = go (P x) refl e (λ d. first_sound P xs a d)
  where
    go : (b : Bool) → P x ≡ b → first_if b x (first P xs) ≡ Some a → (first P xs ≡ Some a → In a xs × (P a ≡ true)) → In a (x ∷ xs) × (P a ≡ true)
    go true p d rec = let z = same_Some x a d in (here (sym z), ap P (sym z) ∙ p)
    go false p d rec = (there (rec d).0, (rec d).1)

-- where one of the list passes, one is found
pub first_found : {A : Type 0} (P : A → Bool) (l : List A) (a : A) → In a l → P a ≡ true → (b : A) × (first P l ≡ Some b)
unfolding first
first_found P [] a i p = absurd (Memᴰ.not-nil i)
first_found {A} P (x ∷ xs) a i p = go (P x) refl (λ j. first_found P xs a j p)
  where
    go : (t : Bool) → P x ≡ t → (In a xs → (b : A) × (first P xs ≡ Some b)) → (b : A) × (first_if t x (first P xs) ≡ Some b)
    go true e rec = (x, refl)
    go false e rec = ⊎_elim (λ d. absurd (true≢false (sym p ∙ (ap P d ∙ e)))) rec (Memᴰ.cases_cons i)

-- two tests that agree on the list find the same
pub first_same : {A : Type 0} (P Q : A → Bool) (l : List A) → ((a : A) → In a l → P a ≡ Q a) → first P l ≡ first Q l
unfolding first
first_same P Q [] h = refl
first_same P Q (x ∷ xs) h = ap₂ (λ b o. first_if b x o) (h x (here refl)) (first_same P Q xs (λ a i. h a (there i)))

-- each link of a place below `last` leads to a place before it, or ends
abbrev pub Falls : (ℕ → ℕ) → ℕ → Type 0
Falls next last = (n : ℕ) → n < last → next n ≤ n

-- the places along falling links lie below the link that leads to them
pub linked_below : (next : ℕ → ℕ) (last k link : ℕ) {n : ℕ} → Falls next last → link ≤ last → In n (linked next k link) → n < link
unfolding linked
linked_below next last zero link f h i = absurd (Memᴰ.not-nil i)
linked_below next last (suc k) zero f h i = absurd (Memᴰ.not-nil i)
linked_below next last (suc k) (suc p) f h i =
    let q = f p h in
    ⊎_elim (λ e. omega arith) (λ j. let r = linked_below next last k (next p) f (omega arith) j in omega arith) (Memᴰ.cases_cons i)

-- only the links below `last` count, and fuel from the first link on is enough
pub linked_same : (next other : ℕ → ℕ) (last k j link : ℕ) → Falls next last → ((n : ℕ) → n < last → other n ≡ next n) → link ≤ last → link ≤ k → link ≤ j
    → linked other k link ≡ linked next j link
unfolding linked
linked_same next other last zero zero link f e h a b = refl
linked_same next other last zero (suc j) zero f e h a b = refl
linked_same next other last zero (suc j) (suc p) f e h a b = absurd (omega arith)
linked_same next other last (suc k) zero zero f e h a b = refl
linked_same next other last (suc k) zero (suc p) f e h a b = absurd (omega arith)
linked_same next other last (suc k) (suc j) zero f e h a b = refl
linked_same next other last (suc k) (suc j) (suc p) f e h a b =
    let q = f p h in
    ap (λ (l : List ℕ). p ∷ l) (ap (linked other k) (e p h) ∙ linked_same next other last k j (next p) f e (omega arith) (omega arith) (omega arith))

-- A walk along links, turn by turn: the place in hand and the walk from its own link.
pub linked_turn : (next : ℕ → ℕ) (k link : ℕ) → 0 < k → (link ≡ 0 → ⊥) → linked next k link ≡ (link - 1) ∷ linked next (k - 1) (next (link - 1))
unfolding linked
linked_turn next zero link h e = absurd (omega arith)
linked_turn next (suc k) zero h e = absurd (e refl)
linked_turn next (suc k) (suc n) h e =
    let a : suc n - 1 ≡ n = omega arith in
    let b : suc k - 1 ≡ k = omega arith in
    rw (a, b)

-- the link 0 ends it
pub linked_zero : (next : ℕ → ℕ) (k link : ℕ) → link ≡ 0 → linked next k link ≡ []
unfolding linked
linked_zero next zero link e = refl
linked_zero next (suc k) zero e = refl
linked_zero next (suc k) (suc n) e = absurd (omega arith)

-- and so does the number of places
pub linked_none : (next : ℕ → ℕ) (k link : ℕ) → k ≡ 0 → linked next k link ≡ []
unfolding linked
linked_none next zero link e = refl
linked_none next (suc k) link e = absurd (omega arith)
