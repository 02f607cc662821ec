-- What holds of every asking, by induction over their number.
use mathlib.Core.Path.{◌≡◌, ◌∙◌}
use Prim.Native.Nat.{ℕ, zero, suc}
use Rattle.lists.specs.Asking.{AskedOn}

module _ {C R : Type 0} (Answers : C → R → Type 0) (onward : C → R → C) where
  -- `what c k` is what asking number k from c on gives, where one asking gives the first of that and leaves the others to be given.
  pub asked_on_lem : {A : Type 0} (given : R → A) (what : C → ℕ → A) → ((c : C) (r : R) → Answers c r → (given r ≡ what c 0) × ((k : ℕ) → what (onward c r) k ≡ what c (suc k)))
      → (c : C) (k : ℕ) (r : R) → AskedOn Answers onward c k r → given r ≡ what c k
  asked_on_lem given what one c zero r a = (one c r a).0
  asked_on_lem given what one c (suc k) r (q, a, later) = asked_on_lem given what one (onward c q) k r later ∙ (one c q a).1 k

  -- What one asking keeps of a cursor, every asking keeps.
  pub kept_on : (P : C → Type 0) → ((c : C) (r : R) → Answers c r → P c → P (onward c r)) → (c : C) (k : ℕ) (r : R) → AskedOn Answers onward c k r → P c → (d : C) × P d × Answers d r
  kept_on P one c zero r a p = (c, p, a)
  kept_on P one c (suc k) r (q, a, later) p = kept_on P one (onward c q) k r later (one c q a p)
