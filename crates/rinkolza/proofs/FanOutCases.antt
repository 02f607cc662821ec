-- 02, 2.6, through the C function: a number, refusals that leave the answer as it was, and slices of another length.
use mathlib.Core.Path.{◌≡◌, refl, sym, ap, ◌∙◌}
use mathlib.Core.List.{List, [], ◌∷◌}
use Prim.Native.Nat.{ℕ}
use Rattle.lists.proofs.Places.{at_in}
use Rattle.calls.proofs.StarCases.{lend}
use Rattle.fan_outs.proofs.OpenedRoom.{line_is_call}
use Rattle.fan_outs.proofs.FanOutCases.{falling, rising, nine, Holds, cases, each_case}
use Rattle.rinkolza.specs.FanOutWords.{CountLeft, count_left, in_count, fan_out_words}

-- what the call leaves of an answer, with sigma 9 on machine 2
abbrev left : (n q x : ℕ) → List ℕ → CountLeft
left n q x old = fan_out_words nine (lend falling rising) n q x old

pub two : left 2 0 4 (7 ∷ []) ≡ count_left 0 (2 ∷ [])
unfolding fan_out_words Holds cases
two = ap (in_count (7 ∷ [])) (sym (line_is_call nine (lend falling rising) (2 ∷ 0 ∷ 4 ∷ []) refl refl) ∙ each_case _ (at_in cases 5 refl))

pub eleven : left 2 0 9 (7 ∷ []) ≡ count_left 11 (7 ∷ [])
unfolding fan_out_words Holds cases
eleven = ap (in_count (7 ∷ [])) (sym (line_is_call nine (lend falling rising) (2 ∷ 0 ∷ 9 ∷ []) refl refl) ∙ each_case _ (at_in cases 9 refl))

-- no answer, one of two words, and settings of five
pub sized : (left 2 0 4 [] ≡ count_left 1 []) × (left 2 0 4 (7 ∷ 7 ∷ []) ≡ count_left 1 (7 ∷ 7 ∷ [])) × (fan_out_words (0 ∷ 0 ∷ 0 ∷ 0 ∷ 0 ∷ []) (lend falling rising) 2 0 4 (7 ∷ []) ≡ count_left 1 (7 ∷ []))
unfolding fan_out_words
sized = (refl, refl, refl)
