-- What the library lacks for lists that are walked, filtered and written to. map, _++_ and flatMap are mathlib's; length, get_or and slice_get are the Prelude's.
use Rattle.std.specs.Prelude.{◌≡◌, Bool, true, false, ◌&&◌, ◌↔◌, ℕ, zero, suc, Option, None, Some, slice_get}
use mathlib.Core.List.{List, [], ◌∷◌, Memᴰ}
use Rattle.std.proofs.lemmas.List.Edits.{sets}

-- a stands in l at place k, counted from 0
abbrev pub At : {A : Type 0} → List A → ℕ → A → Type 0
At l k a = slice_get l k ≡ Some a

-- nothing stands in l twice
abbrev pub Distinct : {A : Type 0} → List A → Type 0
Distinct [] = Unit {0}
Distinct (x ∷ xs) = (Memᴰ x xs → ⊥) × Distinct xs

-- l holds each a with P once, and nothing else
pub record Enumerates {A : Type 0} (l : List A) (P : A → Type 0) : Type 0 where
  pub once : Distinct l
  pub exactly : (a : A) → Memᴰ a l ↔ P a

-- x in front of l where the test holds
abbrev pub put_if : {A : Type 0} → Bool → A → List A → List A
put_if true x l = x ∷ l
put_if false x l = l

-- those of l for which P holds, in their order
unfoldable pub keep_if : {A : Type 0} → (A → Bool) → List A → List A
keep_if P [] = []
keep_if P (x ∷ xs) = put_if (P x) x (keep_if P xs)

-- P holds for all of l
unfoldable pub every : {A : Type 0} → (A → Bool) → List A → Bool
every P [] = true
every P (x ∷ xs) = P x && every P xs

-- the n numbers from s on: s, s + 1, ..
unfoldable pub interval : ℕ → ℕ → List ℕ
interval s zero = []
interval s (suc n) = s ∷ interval (suc s) n

-- s with the words of r written from index `at` on; what does not fit is not written. The library's `sets`, shut, so that a proof finds its arguments.
unfoldable pub put : List ℕ → ℕ → List ℕ → List ℕ
put s at r = sets s at r

-- the first of l for which P holds
abbrev pub first_if : {A : Type 0} → Bool → A → Option A → Option A
first_if true x others = Some x
first_if false x others = others

unfoldable pub first : {A : Type 0} → (A → Bool) → List A → Option A
first P [] = None
first P (x ∷ xs) = first_if (P x) x (first P xs)

-- The places along links: the link n + 1 leads to place n, whose own link is `next n`, and 0 ends; at most k places.
unfoldable pub linked : (ℕ → ℕ) → ℕ → ℕ → List ℕ
linked next zero link = []
linked next (suc k) zero = []
linked next (suc k) (suc n) = n ∷ linked next k (next n)
