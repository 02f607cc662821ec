-- Closed cases of what a caller that owns its memory does beside the five calls: where a piece of a run stands, all final weights, and a copy. The machines are those of case 1.
use mathlib.Core.Path.{◌≡◌, refl}
use mathlib.Core.List.{List, [], ◌∷◌}
use Rattle.std.specs.Prelude.{None, Some}
use Prim.Native.Nat.{ℕ}
use lib.ListN.{replicate}
use Rattle.words.specs.Labels.{good, refused}
use Rattle.words.specs.Settings.{Lent}
use Rattle.calls.specs.Sequences.{World, Call, opening, run, after}
use Rattle.calls.specs.Listing.{settings_of}
use Rattle.calls.specs.Owned.{stop_from, weights_from, final_weights_of, lengthened}
use Rattle.calls.proofs.Cases.{Holds}
use Rattle.calls.proofs.StarCases.{plain, lend, session, world, example1, example2, weighing}

abbrev both : Lent
both = lend example1 example2

-- one head, and so many words of states and of transitions, after these calls
abbrev after_calls : Lent → ℕ → ℕ → List Call → World
after_calls l states trs cs = after l (world (session (plain 0 0) 0 0 0) (0 ∷ []) (replicate states 7) (replicate trs 7)) (opening (settings_of (plain 0 0)) l ∷ cs)

-- the next state of a piece of k states from n on, where an opening left so many words
abbrev next : ℕ → ℕ → ℕ → ℕ
next states n k = let w = after_calls both states 15 [] in stop_from both k n w.session w.memory

-- none is asked for; k are passed; none is left after the fourth; one that is not found; a state record is lacking at state 2
pub stands : (next 24 0 0 ≡ 0) × (next 24 0 2 ≡ 2) × (next 24 0 9 ≡ 4) × (next 24 7 3 ≡ 7) × (next 23 0 9 ≡ 2)
unfolding Holds stop_from
stands = (refl, refl, refl, refl, refl)

-- state 3 alone is final; those of the two states from 2 on; 2147483648 twice is too large
pub weighed :
    (let w = after_calls both 24 15 (run ∷ []) in final_weights_of both w.session w.memory ≡ good (None ∷ None ∷ None ∷ Some 3 ∷ []))
    × (let w = after_calls both 24 15 (run ∷ []) in weights_from both w.session w.memory 2 2 ≡ good (None ∷ Some 3 ∷ []))
    × (let l = lend (weighing 2147483648) (weighing 2147483648) in let w = after_calls l 6 5 [] in final_weights_of l w.session w.memory ≡ refused 12)
unfolding Holds weights_from
weighed = (refl, refl, refl)

-- words follow those of the states and of the transitions
pub lengthens : lengthened (4 ∷ []) (5 ∷ 6 ∷ []) (record { heads = 1 ∷ []; states = 2 ∷ []; trs = 3 ∷ [] }) ≡ record { heads = 1 ∷ []; states = 2 ∷ 4 ∷ []; trs = 3 ∷ 5 ∷ 6 ∷ [] }
lengthens = refl
