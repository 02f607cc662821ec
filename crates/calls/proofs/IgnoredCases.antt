-- 02, 2.7 and 2.8: lists of calls that are lent ignored labels.
use mathlib.Core.Path.{◌≡◌, refl}
use mathlib.Core.List.{List, [], ◌∷◌, Memᴰ as In}
use Rattle.std.specs.Prelude.{None, Some}
use Prim.Native.Nat.{ℕ}
use lib.ListN.{replicate}
use Rattle.words.specs.Labels.{MAX, refused}
use Rattle.words.specs.Settings.{Lent}
use Rattle.calls.specs.Checks.{Session}
use Rattle.calls.specs.Sequences.{World, opening, expand, final_weight, records, run, refusal, accepted, weight, answered, handed}
use Rattle.calls.specs.Listing.{settings_of}
use Rattle.calls.specs.Owned.{stop_from, weights_from, final_weights_of}
use Rattle.calls.proofs.Cases.{Case, calling, Holds, AllHold, each_holds}
use Rattle.calls.proofs.StarCases.{plain, lend_with, session, world, list_part}

-- 1:5 and then 2:3, of weights 1 and 2, to a final state of weight 1
abbrev pub joined : List ℕ
joined = 3 ∷ 2 ∷ 1 ∷ 0 ∷ 0 ∷ 0 ∷ 1 ∷ 0 ∷ 0 ∷ 2 ∷ 0 ∷ 0 ∷ 0 ∷ 1 ∷ 1 ∷ 1 ∷ 5 ∷ 1 ∷ 1 ∷ 0 ∷ 2 ∷ 3 ∷ 2 ∷ 2 ∷ 0 ∷ []

-- 3:5 of weight 4 to a final state of weight 2
abbrev pub spaced : List ℕ
spaced = 2 ∷ 1 ∷ 1 ∷ 0 ∷ 0 ∷ 0 ∷ 1 ∷ 0 ∷ 0 ∷ 0 ∷ 1 ∷ 2 ∷ 3 ∷ 5 ∷ 4 ∷ 1 ∷ 0 ∷ []

abbrev pub ignoring : List ℕ → Lent
ignoring xs = lend_with xs joined spaced

abbrev with : ℕ → ℕ → Session
with states trs = session (plain 0 0) 1 states trs

-- the same with a sigma label on machine 1
abbrev sigma_on1 : ℕ → List ℕ
sigma_on1 x = 0 ∷ 0 ∷ x ∷ 0 ∷ MAX ∷ 0 ∷ []

abbrev by_sigma : ℕ → ℕ → Session
by_sigma states trs = session (sigma_on1 5) 1 states trs

-- words without meaning
abbrev pub before : World
before = world (session (1 ∷ 2 ∷ 3 ∷ 4 ∷ 5 ∷ 6 ∷ []) 7 8 9) (9 ∷ []) (replicate 18 8) (replicate 10 8)

-- three states and two transitions, all expanded
abbrev pub left : World
left = world (with 3 2) (3 ∷ []) (0 ∷ 0 ∷ 0 ∷ 1 ∷ 1 ∷ 0 ∷ 1 ∷ 0 ∷ 0 ∷ 1 ∷ 2 ∷ 1 ∷ 2 ∷ 1 ∷ 0 ∷ 1 ∷ 0 ∷ 2 ∷ []) (1 ∷ 0 ∷ 1 ∷ 1 ∷ 0 ∷ 2 ∷ 5 ∷ 6 ∷ 2 ∷ 0 ∷ [])

unfoldable pub ignored_cases : List Case
ignored_cases =
    -- Without a list 1:5 meets nothing.
    calling (ignoring []) before (opening (settings_of (plain 0 0)) (ignoring []) ∷ run ∷ [])
    (answered accepted (with 1 0) ∷ answered accepted (with 1 0) ∷ [])
    (world (with 1 0) (1 ∷ []) (0 ∷ 0 ∷ 0 ∷ 1 ∷ 0 ∷ 0 ∷ replicate 12 8) (replicate 10 8))
    -- With 5 in it machine 1 goes along 1:5 alone. The output 5 of machine 2 is an outer label and stays. An opening with a list that holds 0 or MAX is refused, and hands back the session.
    ∷ calling (ignoring (5 ∷ [])) before
    (opening (settings_of (plain 0 0)) (ignoring (5 ∷ []))
    ∷ expand 0
    ∷ opening (settings_of (plain 0 0)) (ignoring (5 ∷ 0 ∷ []))
    ∷ opening (settings_of (plain 0 0)) (ignoring (MAX ∷ []))
    ∷ run
    ∷ records 0
    ∷ records 1
    ∷ final_weight 1
    ∷ final_weight 2
    ∷ [])
    (answered accepted (with 1 0)
    ∷ answered (list_part 1 1) (with 2 1)
    ∷ answered (refusal 18) (with 2 1)
    ∷ answered (refusal 18) (with 2 1)
    ∷ answered accepted (with 3 2)
    ∷ handed (1 ∷ 0 ∷ 1 ∷ 1 ∷ 0 ∷ [])
    ∷ handed (2 ∷ 5 ∷ 6 ∷ 2 ∷ 0 ∷ [])
    ∷ answered (weight None) (with 3 2)
    ∷ answered (weight (Some 3)) (with 3 2)
    ∷ [])
    left
    -- Every later call with such a list: 18, before 9, an empty part, and nothing changes.
    ∷ calling (ignoring (5 ∷ 0 ∷ [])) left (expand 0 ∷ final_weight 2 ∷ run ∷ records 1 ∷ [])
    (answered (refusal 18) (with 3 2) ∷ answered (refusal 18) (with 3 2) ∷ answered (refusal 18) (with 3 2) ∷ handed [] ∷ [])
    left
    ∷ calling (ignoring (77 ∷ MAX ∷ [])) left (expand 7 ∷ records 0 ∷ [])
    (answered (refusal 18) (with 3 2) ∷ handed [] ∷ [])
    left
    -- 02, 2.8: 5 is machine 1's sigma, in the list or not: 1:5 matches the letter 3, the letter 5 is asked for nowhere, and the path ends there. "18 judges the list as lent": sigma
    -- labels 0 and MAX (none) in it are 18, before 4.
    ∷ calling (ignoring (5 ∷ [])) before
    (opening (settings_of (sigma_on1 5)) (ignoring (5 ∷ []))
    ∷ run
    ∷ records 0
    ∷ opening (settings_of (sigma_on1 0)) (ignoring (5 ∷ 0 ∷ []))
    ∷ opening (settings_of (sigma_on1 5)) (ignoring (5 ∷ MAX ∷ []))
    ∷ opening (settings_of (sigma_on1 0)) (ignoring (5 ∷ []))
    ∷ [])
    (answered accepted (by_sigma 1 0)
    ∷ answered accepted (by_sigma 2 1)
    ∷ handed (1 ∷ 5 ∷ 5 ∷ 1 ∷ 0 ∷ [])
    ∷ answered (refusal 18) (by_sigma 2 1)
    ∷ answered (refusal 18) (by_sigma 2 1)
    ∷ answered (refusal 4) (by_sigma 2 1)
    ∷ [])
    (world (by_sigma 2 1) (2 ∷ []) (0 ∷ 0 ∷ 0 ∷ 1 ∷ 1 ∷ 0 ∷ 1 ∷ 1 ∷ 0 ∷ 1 ∷ 0 ∷ 1 ∷ replicate 6 8) (1 ∷ 5 ∷ 5 ∷ 1 ∷ 0 ∷ replicate 5 8))
    ∷ []

ignored_cases_lem : AllHold ignored_cases
unfolding AllHold Holds ignored_cases
ignored_cases_lem = ((refl, refl), ((refl, refl), ((refl, refl), ((refl, refl), ((refl, refl), tt)))))

-- each case of the table holds
pub ignored_case : (c : Case) → In c ignored_cases → Holds c
ignored_case c i = each_holds ignored_cases ignored_cases_lem c i

-- a caller that owns its memory is lent the list too: all final weights, and where a piece of a run stands
pub ignored_owned :
    (final_weights_of (ignoring (0 ∷ [])) left.session left.memory ≡ refused 18)
    × (stop_from (ignoring (0 ∷ [])) 9 0 left.session left.memory ≡ 0)
    × (stop_from (ignoring (5 ∷ [])) 9 0 left.session left.memory ≡ 3)
unfolding Holds stop_from weights_from
ignored_owned = (refl, refl, refl)
