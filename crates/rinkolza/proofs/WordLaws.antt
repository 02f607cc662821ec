-- Nine words and a session are the same thing, written either way.
use mathlib.Core.Path.{◌≡◌, refl, ap, ◌∙◌}
use mathlib.Core.Bool.{true, ◌&&◌}
use mathlib.Core.List.{List, [], ◌∷◌}
use Prim.Native.Nat.{ℕ, zero, suc}
use native.Mathlib.Omega.{arith}
use Rattle.std.specs.Prelude.{Option}
use lib.ListN.{length, get_or}
use borrow.Author.Tests.{eqb-true}
use Rattle.lists.proofs.Members.{and_left, and_right}
use Rattle.words.specs.Labels.{Checked, good, refused, and_then}
use Rattle.words.specs.Settings.{Lent}
use Rattle.words.specs.Steps.{Composition, final_at}
use Rattle.calls.specs.Store.{Memory, triple_at}
use Rattle.calls.specs.Checks.{Session, entered_at}
use Rattle.calls.specs.Calls.{settle, unchanged, final_weight_of, final_weight_with}
use Rattle.rinkolza.specs.Exported.{session_words, session_at, nine, two}

-- the n words of a list from place k on
abbrev reads : List ℕ → ℕ → ℕ → List ℕ
reads w k zero = []
reads w k (suc n) = get_or w k 0 ∷ reads w (suc k) n

reads_rest : (x : ℕ) (w : List ℕ) (k n : ℕ) → reads (x ∷ w) (suc k) n ≡ reads w k n
reads_rest x w k zero = refl
reads_rest x w k (suc n) = ap (λ (r : List ℕ). get_or w k 0 ∷ r) (reads_rest x w (suc k) n)

reads_all : (w : List ℕ) (n : ℕ) → length w ≡ n → reads w 0 n ≡ w
reads_all [] zero e = refl
reads_all [] (suc n) e = absurd (omega (arith, e))
reads_all (x ∷ w) zero e = absurd (omega (arith, e))
reads_all (x ∷ w) (suc n) e = ap (λ (r : List ℕ). x ∷ r) (reads_rest x w 0 n ∙ reads_all w n (omega (arith, e)))

-- a session that is written and read again
pub session_of_words : (s : Session) → session_at (session_words s) ≡ s
session_of_words s = refl

-- nine words that are read and written again
pub words_of_session : (w : List ℕ) → length w ≡ 9 → session_words (session_at w) ≡ w
words_of_session w e = reads_all w 9 e

-- session and answer have their lengths
pub both_sized : (w old : List ℕ) → nine w && two old ≡ true → (length w ≡ 9) × (length old ≡ 2)
both_sized w old h = (eqb-true _ _ (and_left (nine w) (two old) h), eqb-true _ _ (and_right (nine w) (two old) h))

-- final weight hands back the session that it got
pub final_session : (l : Lent) (s : Session) (m : Memory) (n : ℕ) → (final_weight_of l s m n).session ≡ s
unfolding final_weight_with
final_session l s m n = go (entered_at l s m n)
  where
    weighed : (x : Checked (Option ℕ)) → (settle s m (and_then x (λ w. good (unchanged s m w)))).session ≡ s
    weighed (good w) = refl
    weighed (refused k) = refl

    go : (x : Checked Composition) → (settle s m (and_then x (λ c. and_then (final_at c (triple_at m.states n)) (λ w. good (unchanged s m w))))).session ≡ s
    go (good c) = weighed (final_at c (triple_at m.states n))
    go (refused k) = refl
