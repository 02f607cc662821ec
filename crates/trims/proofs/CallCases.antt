-- Closed cases of the whole call, on made-up stores: a state that only a zero-weight final ends, the order of refusals, and what each leaves.
use mathlib.Core.Path.{◌≡◌, refl}
use mathlib.Core.List.{List, [], ◌∷◌, ◌++◌}
use Prim.Native.Nat.{ℕ}
use lib.ListN.{replicate}
use Rattle.words.specs.Labels.{MAX, good, refused}
use Rattle.words.specs.Settings.{Lent}
use Rattle.calls.specs.Store.{Memory}
use Rattle.calls.specs.Checks.{Session}
use Rattle.calls.proofs.Cases.{Holds}
use Rattle.calls.proofs.StarCases.{plain, lend, session}
use Rattle.graphs.specs.Walks.{exists, leads_within, useful}
use Rattle.machine_words.specs.MachineWords.{machine_words, states_words, trs_words, list_words, trs_in}
use Rattle.trims.specs.Trims.{number, trimmed, all_expanded, all_weighed, lacks_room, trimmed_of, Trim, trim_of}

-- state 1 is final with a cost MAX, which is zero, state 2 with a cost 5; the other machine has one state, final with a cost 0
abbrev zero_end : Lent
zero_end = lend (3 ∷ 0 ∷ 1 ∷ 0 ∷ 0 ∷ 0 ∷ 0 ∷ 0 ∷ 0 ∷ 0 ∷ 1 ∷ MAX ∷ 0 ∷ 1 ∷ 5 ∷ []) (1 ∷ 0 ∷ 1 ∷ 0 ∷ 0 ∷ 0 ∷ 0 ∷ 1 ∷ 0 ∷ [])

abbrev three : Session
three = session (plain 0 0) 1 3 2

-- the pairs of these states, all expanded; the first leads by 1:1 to the second and by 2:2 to the third
abbrev forked : Memory
forked = record {
  heads = 0 ∷ [];
  states = 0 ∷ 0 ∷ 0 ∷ 1 ∷ 1 ∷ 0 ∷ 1 ∷ 0 ∷ 0 ∷ 1 ∷ 0 ∷ 0 ∷ 2 ∷ 0 ∷ 0 ∷ 1 ∷ 0 ∷ 0 ∷ [];
  trs = 1 ∷ 1 ∷ 0 ∷ 1 ∷ 2 ∷ 2 ∷ 2 ∷ 0 ∷ 2 ∷ 0 ∷ [];
}

-- what is left: the first and the third, and the second transition
abbrev left : List ℕ
left = 2 ∷ 1 ∷ 1 ∷ 0 ∷ 0 ∷ 0 ∷ 1 ∷ 0 ∷ 0 ∷ 0 ∷ 1 ∷ 5 ∷ 2 ∷ 2 ∷ 0 ∷ 1 ∷ 0 ∷ []

-- the call, with its definitions open
unfoldable trims : Lent → Session → Memory → List ℕ → List ℕ → Trim
unfolding Holds trim_of trimmed_of all_expanded all_weighed lacks_room trimmed machine_words states_words trs_words list_words trs_in number useful leads_within exists
trims l s m out work = trim_of l s m out work

zero_weight_end : trims zero_end three forked (replicate 18 9) (replicate 7 4) ≡ record { answer = good 17; out = left ++ (9 ∷ []); work = replicate 6 0 ++ (4 ∷ []) }
unfolding Holds trims
zero_weight_end = refl

-- a work slice that is short by one word, and an output slice that is
short_work : trims zero_end three forked (replicate 18 9) (replicate 5 4) ≡ record { answer = refused 13; out = replicate 18 9; work = replicate 5 4 }
unfolding Holds trims
short_work = refl

short_out : trims zero_end three forked (replicate 16 9) (replicate 7 4) ≡ record { answer = refused 13; out = replicate 16 9; work = replicate 6 0 ++ (4 ∷ []) }
unfolding Holds trims
short_out = refl

-- two final weights whose sum is too large
abbrev too_large_lem : Lent
too_large_lem = lend (1 ∷ 0 ∷ 1 ∷ 0 ∷ 0 ∷ 0 ∷ 0 ∷ 1 ∷ 4294967290 ∷ []) (1 ∷ 0 ∷ 1 ∷ 0 ∷ 0 ∷ 0 ∷ 0 ∷ 1 ∷ 10 ∷ [])

-- one state, expanded or not
abbrev alone : ℕ → Memory
alone expanded = record { heads = 0 ∷ []; states = 0 ∷ 0 ∷ 0 ∷ expanded ∷ 0 ∷ 0 ∷ []; trs = [] }

fourteen_first : trims too_large_lem (session (plain 0 0) 1 1 0) (alone 0) [] (4 ∷ 4 ∷ 4 ∷ []) ≡ record { answer = refused 14; out = []; work = 0 ∷ 0 ∷ 4 ∷ [] }
unfolding Holds trims
fourteen_first = refl

twelve_then : trims too_large_lem (session (plain 0 0) 1 1 0) (alone 1) [] (4 ∷ 4 ∷ 4 ∷ []) ≡ record { answer = refused 12; out = []; work = 0 ∷ 0 ∷ 4 ∷ [] }
unfolding Holds trims
twelve_then = refl

-- no state is used: six words 0, and no work slice is asked for
no_state : trims too_large_lem (session (plain 0 0) 1 0 0) (record { heads = []; states = []; trs = [] }) (replicate 7 9) [] ≡ record { answer = good 6; out = replicate 6 0 ++ (9 ∷ []); work = [] }
unfolding Holds trims
no_state = refl
