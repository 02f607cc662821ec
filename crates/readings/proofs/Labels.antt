-- A label agrees with no empty list of labels.
use mathlib.Core.Path.{◌≡◌, refl}
use mathlib.Core.List.{List, [], ◌∷◌}
use mathlib.Core.Logic.{◌≢◌}
use Prim.Native.Nat.{ℕ}
use Rattle.lists.specs.Lists.{keep_if}
use Rattle.papers.specs.Machine.{ε}
use Rattle.papers.specs.Paths.{word, Agree}
use Rattle.papers.proofs.PathLaws.{word_label}

pub word_nil : word [] ≡ []
unfolding word keep_if
word_nil = refl

-- no labels agree with a label
pub none_agree : (R : ℕ → ℕ → Type 0) (x : ℕ) (l : List ℕ) → x ≢ ε → Agree R (word []) (word (x ∷ l)) → ⊥
none_agree R x l n h = rw (word_nil, word_label x l n) at h

pub agree_none : (R : ℕ → ℕ → Type 0) (x : ℕ) (l : List ℕ) → x ≢ ε → Agree R (word (x ∷ l)) (word []) → ⊥
agree_none R x l n h = rw (word_nil, word_label x l n) at h
