-- One to one and onto, or onto alone, with both maps in hand.
use Rattle.std.specs.Prelude.{◌≡◌}

-- The a with P and the b with Q correspond one to one: `to` leads from the ones to the others, `from` leads back, and each undoes the other.
pub record OneToOne {A B : Type 0} (P : A → Type 0) (Q : B → Type 0) (to : A → B) (from : B → A) : Type 0 where
  pub goes : (a : A) → P a → Q (to a)
  pub comes : (b : B) → Q b → P (from b)
  pub from_to : (a : A) → P a → from (to a) ≡ a
  pub to_from : (b : B) → Q b → to (from b) ≡ b

-- Each b with Q comes from an a with P, perhaps from several: `to` leads to none but those, and `from` finds one of the a that it comes from.
pub record Onto {A B : Type 0} (P : A → Type 0) (Q : B → Type 0) (to : A → B) (from : B → A) : Type 0 where
  pub goes : (a : A) → P a → Q (to a)
  pub comes : (b : B) → Q b → P (from b)
  pub to_from : (b : B) → Q b → to (from b) ≡ b
