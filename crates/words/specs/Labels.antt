-- 01, first paragraph, and "Answers". Labels, state numbers, record numbers and weights are plain numbers here; the code keeps `Label` and `StateId` apart.
use Rattle.std.specs.Prelude.{Bool, true, false, List, [], ◌∷◌, ℕ}
use Rattle.papers.specs.Machine.{ε}

-- "All words are unsigned 32-bit. MAX is 4294967295." That each number of a list is a word comes from the slices' type; no definition asks it.
abbrev pub MAX : ℕ
MAX = 4294967295

-- "Label 0 is epsilon (`EPS_LABEL`)"
abbrev pub eps_label : ℕ
eps_label = ε

-- "MAX is `NO_LABEL`, never a label of a machine."
abbrev pub no_label : ℕ
no_label = MAX

-- a value, or a refusal by its number in the table of "Answers"
pub data Checked (A : Type 0) : Type 0 where
  good : A → Checked A
  refused : ℕ → Checked A

-- the refusal n where the test holds, else the rest
abbrev pub refuse_if : {A : Type 0} → Bool → ℕ → Checked A → Checked A
refuse_if true n rest = refused n
refuse_if false n rest = rest

-- a value is taken further, a refusal stays
abbrev pub and_then : {A B : Type 0} → Checked A → (A → Checked B) → Checked B
and_then (good a) g = g a
and_then (refused n) g = refused n

-- all values of a list, or its first refusal: nothing after a refusal counts
unfoldable pub collect : {A : Type 0} → List (Checked A) → Checked (List A)
collect [] = good []
collect (good a ∷ others) = and_then (collect others) (λ l. good (a ∷ l))
collect (refused n ∷ others) = refused n
