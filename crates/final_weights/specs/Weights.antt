-- The final weights of all found states: whether each was answered, and their words.
use mathlib.Core.List.{List, [], ◌∷◌, flat_map}
use Rattle.std.specs.Prelude.{ℕ, Option, None, Some}
use Rattle.lists.specs.Lists.{interval}
use Rattle.words.specs.Labels.{Checked, good, refused}
use Rattle.words.specs.Settings.{Lent}
use Rattle.calls.specs.Store.{Memory}
use Rattle.calls.specs.Checks.{Session}
use Rattle.calls.specs.Calls.{final_weight_of}

-- what is known of weights that were taken: that all were answered, or the first refusal
abbrev pub verdict : {A : Type 0} → Checked A → Checked (Unit {0})
verdict (good a) = good tt
verdict (refused n) = refused n

-- the final weight that was answered; none where it was refused
abbrev pub given_weight : Checked (Option ℕ) → Option ℕ
given_weight (good w) = w
given_weight (refused n) = None

-- 1 and the weight; two zeros where the composed state is not final
abbrev pub weight_words : Option ℕ → List ℕ
weight_words (Some w) = 1 ∷ w ∷ []
weight_words None = 0 ∷ 0 ∷ []

-- the words of all of them; a refusal leaves what there was
abbrev pub weights_words : List ℕ → Checked (List (Option ℕ)) → List ℕ
weights_words old (good ws) = flat_map weight_words ws
weights_words old (refused n) = old

-- the words of state n, and those of the k states from state n on, where none is refused
abbrev pub words_at : Lent → Session → Memory → ℕ → List ℕ
words_at l s m n = weight_words (given_weight (final_weight_of l s m n).answer)

unfoldable pub words_from : Lent → Session → Memory → ℕ → ℕ → List ℕ
words_from l s m n k = flat_map (words_at l s m) (interval n k)
