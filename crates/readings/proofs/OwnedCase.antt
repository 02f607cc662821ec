-- Closed instances of what a caller that owns its memory may do, in 01's listing: the expansion that a small memory refuses by 13 is accepted in a copy one word longer, with the part
-- that a large memory gives, and a run in pieces goes on there.
use mathlib.Core.Path.{◌≡◌, refl}
use mathlib.Core.List.{[], ◌∷◌}
use native.Mathlib.Omega.{arith}
use Rattle.words.specs.Labels.{good, refused}
use Rattle.calls.specs.Sequences.{World, expand, after}
use Rattle.calls.specs.Owned.{stop_from}
use Rattle.calls.proofs.Cases.{Holds}
use Rattle.readings.specs.Worlds.{world_of, expand_in, handed_in}
use Rattle.readings.specs.Owned.{InScope, piece_in, next_in, grown_by, at_once, by_calls, by_copy, Owns}
use Rattle.readings.proofs.DemandCase.{both, set, got, small, from, opens_small}
use Rattle.readings.proofs.RoomCase.{before, left_large, left_small, left_small_lem, one_lacks}
use Rattle.readings.proofs.Owned.{owned}

-- states 0 and 1 are expanded after an opening in the small memory
pub in_scope : InScope set both left_small
in_scope = record { got = got; memory = small; opens = opens_small; calls = before; refuses = tt; leads = left_small_lem }

owns : Owns set both left_small
owns = owned set both left_small in_scope

-- the word that completes a fourth state record
abbrev longer : World
longer = grown_by (9 ∷ []) [] left_small

-- the expansion of state 2 there, in the copy, and in the large memory
pub two_there :
    ((expand_in both left_small 2).answer ≡ refused 13)
    × ((expand_in both longer 2).answer ≡ good (record { first = 3; count = 1 }))
    × ((expand_in both left_large 2).answer ≡ good (record { first = 3; count = 1 }))
unfolding Holds
two_there = (one_lacks, refl, refl)

-- after the copy and that expansion the words of state 1 are handed back as before
pub again_there : handed_in both (after both longer (expand 2 ∷ [])) 1 ≡ 0 ∷ 7 ∷ 4 ∷ 2 ∷ 0 ∷ []
unfolding Holds
again_there = (owns.later _ (by_copy left_small (9 ∷ []) [] (by_calls longer (expand 2 ∷ []) tt (at_once _ refl)))).1.words 1 (omega arith, refl)

-- A piece of two states leads there. The next one is refused at state 2; in the copy it passes that state and state 3, and none is left.
pub pieces_there :
    (world_of (piece_in both (from small) 0 2) ≡ left_small)
    × (next_in both (from small) 0 2 ≡ 2)
    × ((piece_in both left_small 2 9).answer ≡ refused 13)
    × (next_in both left_small 2 9 ≡ 2)
    × ((piece_in both longer 2 9).answer ≡ good tt)
    × (next_in both longer 2 9 ≡ 4)
unfolding Holds stop_from
pieces_there = (refl, refl, refl, refl, refl, refl)
