-- Closed instances at the border to C, in 01's listing, after an opening in a small memory and the expansions of states 0 and 1: what is claimed of pieces and of all final weights speaks
-- of them.
use mathlib.Core.Path.{◌≡◌, refl}
use mathlib.Core.List.{[], ◌∷◌}
use native.Mathlib.Omega.{arith}
use Rattle.calls.proofs.Cases.{Holds}
use Rattle.calls.specs.Owned.{stop_from, weights_from}
use Rattle.readings.proofs.DemandCase.{both, set}
use Rattle.readings.proofs.RoomCase.{left_small}
use Rattle.readings.proofs.OwnedCase.{in_scope}
use Rattle.rinkolza.specs.Exported.{session_words, expand_words, final_weight_words}
use Rattle.rinkolza.specs.Trusted.{piece_words, final_weights_words}
use Rattle.c_readings.specs.Trusted.{OwnsInWords}
use Rattle.c_readings.proofs.Trusted.{owned_in_words}

owns : OwnsInWords both left_small
owns = owned_in_words set both left_small in_scope

-- state 2 has, alone and among all, the words 0 and 0
pub weight_there : (final_weight_words both (session_words left_small.session) (8 ∷ 9 ∷ []) left_small.memory 2).answer ≡ 0 ∷ 0 ∷ []
unfolding Holds weights_from final_weights_words
weight_there = ((owns.weights (7 ∷ 7 ∷ 7 ∷ 7 ∷ 7 ∷ 7 ∷ []) refl).each refl 2 8 9 (omega arith)).1

-- a piece from state 2 on is refused 13, and so is the exported expansion of state 2
pub stop_there : (expand_words both (session_words left_small.session) (8 ∷ 9 ∷ []) left_small.memory 2).number ≡ 13
unfolding Holds stop_from piece_words
stop_there = ((owns.piece 2 9 0 0).stops (λ z. omega (arith, z))).1 8 9
