-- Written by tests/state_cases.py. The inputs are ours.
use mathlib.Core.List.{List, [], ◌∷◌}
use Rattle.std.specs.Prelude.{None, Some}
use Prim.Native.Nat.{ℕ}
use Rattle.words.proofs.Cases.{Case, case_of}

abbrev example1 : List ℕ
example1 = 3 ∷ 2 ∷ 1 ∷ 0 ∷ 0 ∷ 0 ∷ 1 ∷ 0 ∷ 0 ∷ 2 ∷ 0 ∷ 0 ∷ 0 ∷ 1 ∷ 0 ∷ 1 ∷ 0 ∷ 1 ∷ 1 ∷ 0 ∷ 2 ∷ 5 ∷ 2 ∷ 2 ∷ 0 ∷ []

abbrev example2 : List ℕ
example2 = 3 ∷ 2 ∷ 1 ∷ 0 ∷ 0 ∷ 0 ∷ 1 ∷ 0 ∷ 0 ∷ 2 ∷ 0 ∷ 0 ∷ 0 ∷ 1 ∷ 3 ∷ 0 ∷ 7 ∷ 4 ∷ 1 ∷ 0 ∷ 5 ∷ 8 ∷ 1 ∷ 2 ∷ 0 ∷ []

abbrev empty : List ℕ
empty = 1 ∷ 0 ∷ 1 ∷ 0 ∷ 0 ∷ 0 ∷ 0 ∷ 0 ∷ 0 ∷ []

abbrev epsilon1 : List ℕ
epsilon1 = 1 ∷ 1 ∷ 1 ∷ 0 ∷ 0 ∷ 0 ∷ 1 ∷ 0 ∷ 0 ∷ 2 ∷ 0 ∷ 1 ∷ 0 ∷ 0 ∷ []

abbrev epsilon2 : List ℕ
epsilon2 = 1 ∷ 1 ∷ 1 ∷ 0 ∷ 0 ∷ 0 ∷ 1 ∷ 0 ∷ 0 ∷ 0 ∷ 5 ∷ 1 ∷ 0 ∷ 0 ∷ []

abbrev mixed1 : List ℕ
mixed1 = 1 ∷ 3 ∷ 1 ∷ 0 ∷ 0 ∷ 0 ∷ 1 ∷ 0 ∷ 0 ∷ 1 ∷ 0 ∷ 1 ∷ 0 ∷ 2 ∷ 2 ∷ 4 ∷ 1 ∷ 0 ∷ 3 ∷ 3 ∷ 4 ∷ 2 ∷ 0 ∷ 0 ∷ []

abbrev mixed2 : List ℕ
mixed2 = 1 ∷ 3 ∷ 1 ∷ 0 ∷ 0 ∷ 0 ∷ 1 ∷ 1 ∷ 7 ∷ 0 ∷ 6 ∷ 1 ∷ 0 ∷ 2 ∷ 4 ∷ 7 ∷ 1 ∷ 0 ∷ 3 ∷ 4 ∷ 8 ∷ 5 ∷ 0 ∷ 0 ∷ []

-- the answers are the Rust's (rustfst 8e1391df1e, final weights equal to zero read as 01 reads them)
unfoldable pub rust_cases : List Case
unfolding case_of
rust_cases =
    -- 01's worked example, state 0
    case_of (0 ∷ 0 ∷ 4294967295 ∷ 0 ∷ 4294967295 ∷ 0 ∷ []) example1 example2 None None 0 0 0 (2 ∷ 1 ∷ 0 ∷ 0 ∷ 0 ∷ 1 ∷ 0 ∷ 1 ∷ 1 ∷ 0 ∷ 1 ∷ 1 ∷ 0 ∷ 0 ∷ []) ∷
    -- 01's worked example, state 1
    case_of (0 ∷ 0 ∷ 4294967295 ∷ 0 ∷ 4294967295 ∷ 0 ∷ []) example1 example2 None None 1 0 0 (2 ∷ 1 ∷ 0 ∷ 0 ∷ 0 ∷ 1 ∷ 0 ∷ 1 ∷ 0 ∷ 7 ∷ 4 ∷ 1 ∷ 1 ∷ 0 ∷ []) ∷
    -- 01's worked example, state 2
    case_of (0 ∷ 0 ∷ 4294967295 ∷ 0 ∷ 4294967295 ∷ 0 ∷ []) example1 example2 None None 1 1 0 (2 ∷ 1 ∷ 0 ∷ 0 ∷ 0 ∷ 1 ∷ 0 ∷ 1 ∷ 2 ∷ 8 ∷ 3 ∷ 2 ∷ 2 ∷ 0 ∷ []) ∷
    -- 01's worked example, state 3
    case_of (0 ∷ 0 ∷ 4294967295 ∷ 0 ∷ 4294967295 ∷ 0 ∷ []) example1 example2 None None 2 2 0 (2 ∷ 1 ∷ 0 ∷ 0 ∷ 0 ∷ 2 ∷ 3 ∷ 1 ∷ []) ∷
    -- its machines under alternate
    case_of (0 ∷ 1 ∷ 4294967295 ∷ 0 ∷ 4294967295 ∷ 0 ∷ []) example1 example2 None None 0 1 0 (2 ∷ 1 ∷ 0 ∷ 0 ∷ 0 ∷ 1 ∷ 0 ∷ 1 ∷ 1 ∷ 0 ∷ 1 ∷ 1 ∷ 1 ∷ 0 ∷ []) ∷
    -- its machines under match: two epsilons together
    case_of (0 ∷ 2 ∷ 4294967295 ∷ 0 ∷ 4294967295 ∷ 0 ∷ []) example1 example2 None None 0 0 0 (2 ∷ 1 ∷ 0 ∷ 0 ∷ 0 ∷ 1 ∷ 0 ∷ 1 ∷ 1 ∷ 7 ∷ 5 ∷ 1 ∷ 1 ∷ 0 ∷ []) ∷
    -- slip: sorted lists without marks are no "both"
    case_of (0 ∷ 0 ∷ 4294967295 ∷ 0 ∷ 4294967295 ∷ 0 ∷ []) mixed1 mixed2 None None 0 0 0 (2 ∷ 1 ∷ 0 ∷ 0 ∷ 0 ∷ 1 ∷ 0 ∷ 1 ∷ 1 ∷ 0 ∷ 1 ∷ 0 ∷ 0 ∷ 0 ∷ 0 ∷ 6 ∷ 1 ∷ 0 ∷ 0 ∷ 1 ∷ 2 ∷ 7 ∷ 2 ∷ 0 ∷ 0 ∷ 0 ∷ 3 ∷ 7 ∷ 3 ∷ 0 ∷ 0 ∷ 0 ∷ 2 ∷ 8 ∷ 6 ∷ 0 ∷ 0 ∷ 0 ∷ 3 ∷ 8 ∷ 7 ∷ 0 ∷ 0 ∷ 0 ∷ []) ∷
    -- slip: "all" before "none" in sequence
    case_of (0 ∷ 0 ∷ 4294967295 ∷ 0 ∷ 4294967295 ∷ 0 ∷ []) empty epsilon2 None None 0 0 0 (2 ∷ 1 ∷ 0 ∷ 0 ∷ 0 ∷ 1 ∷ 0 ∷ 1 ∷ []) ∷
    -- slip: "all" before "none" in alternate
    case_of (0 ∷ 1 ∷ 4294967295 ∷ 0 ∷ 4294967295 ∷ 0 ∷ []) epsilon1 empty None None 0 0 0 (2 ∷ 1 ∷ 0 ∷ 0 ∷ 0 ∷ 1 ∷ 0 ∷ 1 ∷ []) ∷
    -- slip: "none" before "all" in match, machine 1 alone
    case_of (0 ∷ 2 ∷ 4294967295 ∷ 0 ∷ 4294967295 ∷ 0 ∷ []) epsilon1 empty None None 0 0 0 (2 ∷ 1 ∷ 0 ∷ 0 ∷ 0 ∷ 1 ∷ 0 ∷ 1 ∷ 2 ∷ 0 ∷ 1 ∷ 0 ∷ 0 ∷ 0 ∷ []) ∷
    -- slip: "none" before "all" in match, machine 2 alone
    case_of (0 ∷ 2 ∷ 4294967295 ∷ 0 ∷ 4294967295 ∷ 0 ∷ []) empty epsilon2 None None 0 0 0 (2 ∷ 1 ∷ 0 ∷ 0 ∷ 0 ∷ 1 ∷ 0 ∷ 1 ∷ 0 ∷ 5 ∷ 1 ∷ 0 ∷ 0 ∷ 0 ∷ []) ∷
    -- slip: a transition of weight zero is kept
    case_of (1 ∷ 0 ∷ 4294967295 ∷ 0 ∷ 4294967295 ∷ 0 ∷ []) (1 ∷ 2 ∷ 1 ∷ 0 ∷ 0 ∷ 0 ∷ 1 ∷ 1 ∷ 3 ∷ 1 ∷ 4 ∷ 0 ∷ 0 ∷ 2 ∷ 2 ∷ 4 ∷ 2 ∷ 0 ∷ 0 ∷ []) mixed2 None None 0 0 0 (2 ∷ 1 ∷ 0 ∷ 0 ∷ 0 ∷ 2 ∷ 21 ∷ 1 ∷ 0 ∷ 6 ∷ 1 ∷ 0 ∷ 0 ∷ 0 ∷ 1 ∷ 7 ∷ 0 ∷ 0 ∷ 0 ∷ 0 ∷ 2 ∷ 7 ∷ 2 ∷ 0 ∷ 0 ∷ 0 ∷ 1 ∷ 8 ∷ 0 ∷ 0 ∷ 0 ∷ 0 ∷ 2 ∷ 8 ∷ 10 ∷ 0 ∷ 0 ∷ 0 ∷ []) ∷
    -- epsilons and labels on both sides, alternate
    case_of (0 ∷ 1 ∷ 4294967295 ∷ 0 ∷ 4294967295 ∷ 0 ∷ []) mixed1 mixed2 None None 0 0 0 (2 ∷ 1 ∷ 0 ∷ 0 ∷ 0 ∷ 1 ∷ 0 ∷ 1 ∷ 1 ∷ 0 ∷ 1 ∷ 0 ∷ 0 ∷ 1 ∷ 0 ∷ 6 ∷ 1 ∷ 0 ∷ 0 ∷ 0 ∷ 2 ∷ 7 ∷ 2 ∷ 0 ∷ 0 ∷ 0 ∷ 3 ∷ 7 ∷ 3 ∷ 0 ∷ 0 ∷ 0 ∷ 2 ∷ 8 ∷ 6 ∷ 0 ∷ 0 ∷ 0 ∷ 3 ∷ 8 ∷ 7 ∷ 0 ∷ 0 ∷ 0 ∷ []) ∷
    -- epsilons and labels on both sides, match
    case_of (0 ∷ 2 ∷ 4294967295 ∷ 0 ∷ 4294967295 ∷ 0 ∷ []) mixed1 mixed2 None None 0 0 0 (2 ∷ 1 ∷ 0 ∷ 0 ∷ 0 ∷ 1 ∷ 0 ∷ 1 ∷ 1 ∷ 0 ∷ 1 ∷ 0 ∷ 0 ∷ 1 ∷ 0 ∷ 6 ∷ 1 ∷ 0 ∷ 0 ∷ 2 ∷ 1 ∷ 6 ∷ 2 ∷ 0 ∷ 0 ∷ 0 ∷ 2 ∷ 7 ∷ 2 ∷ 0 ∷ 0 ∷ 0 ∷ 3 ∷ 7 ∷ 3 ∷ 0 ∷ 0 ∷ 0 ∷ 2 ∷ 8 ∷ 6 ∷ 0 ∷ 0 ∷ 0 ∷ 3 ∷ 8 ∷ 7 ∷ 0 ∷ 0 ∷ 0 ∷ []) ∷
    -- epsilons and labels on both sides, null
    case_of (0 ∷ 3 ∷ 4294967295 ∷ 0 ∷ 4294967295 ∷ 0 ∷ []) mixed1 mixed2 None None 0 0 0 (2 ∷ 1 ∷ 0 ∷ 0 ∷ 0 ∷ 1 ∷ 0 ∷ 1 ∷ 1 ∷ 6 ∷ 2 ∷ 0 ∷ 0 ∷ 0 ∷ 2 ∷ 7 ∷ 2 ∷ 0 ∷ 0 ∷ 0 ∷ 3 ∷ 7 ∷ 3 ∷ 0 ∷ 0 ∷ 0 ∷ 2 ∷ 8 ∷ 6 ∷ 0 ∷ 0 ∷ 0 ∷ 3 ∷ 8 ∷ 7 ∷ 0 ∷ 0 ∷ 0 ∷ []) ∷
    -- epsilons and labels on both sides, trivial
    case_of (0 ∷ 4 ∷ 4294967295 ∷ 0 ∷ 4294967295 ∷ 0 ∷ []) mixed1 mixed2 None None 0 0 0 (2 ∷ 1 ∷ 0 ∷ 0 ∷ 0 ∷ 1 ∷ 0 ∷ 1 ∷ 1 ∷ 0 ∷ 1 ∷ 0 ∷ 0 ∷ 0 ∷ 0 ∷ 6 ∷ 1 ∷ 0 ∷ 0 ∷ 0 ∷ 1 ∷ 6 ∷ 2 ∷ 0 ∷ 0 ∷ 0 ∷ 2 ∷ 7 ∷ 2 ∷ 0 ∷ 0 ∷ 0 ∷ 3 ∷ 7 ∷ 3 ∷ 0 ∷ 0 ∷ 0 ∷ 2 ∷ 8 ∷ 6 ∷ 0 ∷ 0 ∷ 0 ∷ 3 ∷ 8 ∷ 7 ∷ 0 ∷ 0 ∷ 0 ∷ []) ∷
    -- epsilons and labels on both sides, no-match
    case_of (0 ∷ 5 ∷ 4294967295 ∷ 0 ∷ 4294967295 ∷ 0 ∷ []) mixed1 mixed2 None None 0 0 0 (2 ∷ 1 ∷ 0 ∷ 0 ∷ 0 ∷ 1 ∷ 0 ∷ 1 ∷ 1 ∷ 0 ∷ 1 ∷ 0 ∷ 0 ∷ 0 ∷ 0 ∷ 6 ∷ 1 ∷ 0 ∷ 0 ∷ 0 ∷ 2 ∷ 7 ∷ 2 ∷ 0 ∷ 0 ∷ 0 ∷ 3 ∷ 7 ∷ 3 ∷ 0 ∷ 0 ∷ 0 ∷ 2 ∷ 8 ∷ 6 ∷ 0 ∷ 0 ∷ 0 ∷ 3 ∷ 8 ∷ 7 ∷ 0 ∷ 0 ∷ 0 ∷ []) ∷
    -- a lone epsilon of machine 1 beside an empty state, null
    case_of (0 ∷ 3 ∷ 4294967295 ∷ 0 ∷ 4294967295 ∷ 0 ∷ []) epsilon1 empty None None 0 0 0 (2 ∷ 1 ∷ 0 ∷ 0 ∷ 0 ∷ 1 ∷ 0 ∷ 1 ∷ []) ∷
    -- a lone epsilon of machine 2 beside an empty state, null
    case_of (0 ∷ 3 ∷ 4294967295 ∷ 0 ∷ 4294967295 ∷ 0 ∷ []) empty epsilon2 None None 0 0 0 (2 ∷ 1 ∷ 0 ∷ 0 ∷ 0 ∷ 1 ∷ 0 ∷ 1 ∷ []) ∷
    -- side input, epsilons and labels on both sides, null
    case_of (0 ∷ 3 ∷ 4294967295 ∷ 0 ∷ 4294967295 ∷ 0 ∷ []) (1 ∷ 2 ∷ 1 ∷ 0 ∷ 0 ∷ 0 ∷ 1 ∷ 0 ∷ 0 ∷ 1 ∷ 4 ∷ 1 ∷ 0 ∷ 2 ∷ 2 ∷ 0 ∷ 1 ∷ 0 ∷ 0 ∷ []) mixed2 None None 0 0 0 (1 ∷ 1 ∷ 0 ∷ 0 ∷ 0 ∷ 1 ∷ 0 ∷ 1 ∷ 1 ∷ 7 ∷ 2 ∷ 0 ∷ 0 ∷ 0 ∷ 1 ∷ 8 ∷ 6 ∷ 0 ∷ 0 ∷ 0 ∷ 2 ∷ 6 ∷ 2 ∷ 0 ∷ 0 ∷ 0 ∷ []) ∷
    -- two epsilons whose weights together are too large, null
    case_of (0 ∷ 3 ∷ 4294967295 ∷ 0 ∷ 4294967295 ∷ 0 ∷ []) (1 ∷ 1 ∷ 1 ∷ 0 ∷ 0 ∷ 0 ∷ 1 ∷ 1 ∷ 0 ∷ 2 ∷ 0 ∷ 2147483648 ∷ 0 ∷ 0 ∷ []) (1 ∷ 1 ∷ 1 ∷ 0 ∷ 0 ∷ 0 ∷ 1 ∷ 1 ∷ 0 ∷ 0 ∷ 5 ∷ 2147483647 ∷ 0 ∷ 0 ∷ []) None None 0 0 0 (2 ∷ 1 ∷ 0 ∷ 0 ∷ 0 ∷ 2 ∷ 0 ∷ 0 ∷ 12 ∷ []) ∷
    -- a lone epsilon of machine 1 beside an empty state, trivial
    case_of (0 ∷ 4 ∷ 4294967295 ∷ 0 ∷ 4294967295 ∷ 0 ∷ []) epsilon1 empty None None 0 0 0 (2 ∷ 1 ∷ 0 ∷ 0 ∷ 0 ∷ 1 ∷ 0 ∷ 1 ∷ 2 ∷ 0 ∷ 1 ∷ 0 ∷ 0 ∷ 0 ∷ []) ∷
    -- a lone epsilon of machine 2 beside an empty state, trivial
    case_of (0 ∷ 4 ∷ 4294967295 ∷ 0 ∷ 4294967295 ∷ 0 ∷ []) empty epsilon2 None None 0 0 0 (2 ∷ 1 ∷ 0 ∷ 0 ∷ 0 ∷ 1 ∷ 0 ∷ 1 ∷ 0 ∷ 5 ∷ 1 ∷ 0 ∷ 0 ∷ 0 ∷ []) ∷
    -- side input, epsilons and labels on both sides, trivial
    case_of (0 ∷ 4 ∷ 4294967295 ∷ 0 ∷ 4294967295 ∷ 0 ∷ []) (1 ∷ 2 ∷ 1 ∷ 0 ∷ 0 ∷ 0 ∷ 1 ∷ 0 ∷ 0 ∷ 1 ∷ 4 ∷ 1 ∷ 0 ∷ 2 ∷ 2 ∷ 0 ∷ 1 ∷ 0 ∷ 0 ∷ []) mixed2 None None 0 0 0 (1 ∷ 1 ∷ 0 ∷ 0 ∷ 0 ∷ 1 ∷ 0 ∷ 1 ∷ 0 ∷ 6 ∷ 1 ∷ 0 ∷ 0 ∷ 0 ∷ 1 ∷ 7 ∷ 2 ∷ 0 ∷ 0 ∷ 0 ∷ 1 ∷ 8 ∷ 6 ∷ 0 ∷ 0 ∷ 0 ∷ 2 ∷ 0 ∷ 1 ∷ 0 ∷ 0 ∷ 0 ∷ 2 ∷ 6 ∷ 2 ∷ 0 ∷ 0 ∷ 0 ∷ []) ∷
    -- two epsilons whose weights together are too large, trivial
    case_of (0 ∷ 4 ∷ 4294967295 ∷ 0 ∷ 4294967295 ∷ 0 ∷ []) (1 ∷ 1 ∷ 1 ∷ 0 ∷ 0 ∷ 0 ∷ 1 ∷ 1 ∷ 0 ∷ 2 ∷ 0 ∷ 2147483648 ∷ 0 ∷ 0 ∷ []) (1 ∷ 1 ∷ 1 ∷ 0 ∷ 0 ∷ 0 ∷ 1 ∷ 1 ∷ 0 ∷ 0 ∷ 5 ∷ 2147483647 ∷ 0 ∷ 0 ∷ []) None None 0 0 0 (2 ∷ 1 ∷ 0 ∷ 0 ∷ 0 ∷ 2 ∷ 0 ∷ 0 ∷ 12 ∷ []) ∷
    -- a lone epsilon of machine 1 beside an empty state, no-match
    case_of (0 ∷ 5 ∷ 4294967295 ∷ 0 ∷ 4294967295 ∷ 0 ∷ []) epsilon1 empty None None 0 0 0 (2 ∷ 1 ∷ 0 ∷ 0 ∷ 0 ∷ 1 ∷ 0 ∷ 1 ∷ 2 ∷ 0 ∷ 1 ∷ 0 ∷ 0 ∷ 0 ∷ []) ∷
    -- a lone epsilon of machine 2 beside an empty state, no-match
    case_of (0 ∷ 5 ∷ 4294967295 ∷ 0 ∷ 4294967295 ∷ 0 ∷ []) empty epsilon2 None None 0 0 0 (2 ∷ 1 ∷ 0 ∷ 0 ∷ 0 ∷ 1 ∷ 0 ∷ 1 ∷ 0 ∷ 5 ∷ 1 ∷ 0 ∷ 0 ∷ 0 ∷ []) ∷
    -- side input, epsilons and labels on both sides, no-match
    case_of (0 ∷ 5 ∷ 4294967295 ∷ 0 ∷ 4294967295 ∷ 0 ∷ []) (1 ∷ 2 ∷ 1 ∷ 0 ∷ 0 ∷ 0 ∷ 1 ∷ 0 ∷ 0 ∷ 1 ∷ 4 ∷ 1 ∷ 0 ∷ 2 ∷ 2 ∷ 0 ∷ 1 ∷ 0 ∷ 0 ∷ []) mixed2 None None 0 0 0 (1 ∷ 1 ∷ 0 ∷ 0 ∷ 0 ∷ 1 ∷ 0 ∷ 1 ∷ 0 ∷ 6 ∷ 1 ∷ 0 ∷ 0 ∷ 0 ∷ 1 ∷ 7 ∷ 2 ∷ 0 ∷ 0 ∷ 0 ∷ 1 ∷ 8 ∷ 6 ∷ 0 ∷ 0 ∷ 0 ∷ 2 ∷ 0 ∷ 1 ∷ 0 ∷ 0 ∷ 0 ∷ []) ∷
    -- two epsilons whose weights together are too large, no-match
    case_of (0 ∷ 5 ∷ 4294967295 ∷ 0 ∷ 4294967295 ∷ 0 ∷ []) (1 ∷ 1 ∷ 1 ∷ 0 ∷ 0 ∷ 0 ∷ 1 ∷ 1 ∷ 0 ∷ 2 ∷ 0 ∷ 2147483648 ∷ 0 ∷ 0 ∷ []) (1 ∷ 1 ∷ 1 ∷ 0 ∷ 0 ∷ 0 ∷ 1 ∷ 1 ∷ 0 ∷ 0 ∷ 5 ∷ 2147483647 ∷ 0 ∷ 0 ∷ []) None None 0 0 0 (2 ∷ 1 ∷ 0 ∷ 0 ∷ 0 ∷ 2 ∷ 0 ∷ 1 ∷ 2 ∷ 0 ∷ 2147483648 ∷ 0 ∷ 0 ∷ 0 ∷ 0 ∷ 5 ∷ 2147483647 ∷ 0 ∷ 0 ∷ 0 ∷ []) ∷
    -- match, from f = 1
    case_of (0 ∷ 2 ∷ 4294967295 ∷ 0 ∷ 4294967295 ∷ 0 ∷ []) (2 ∷ 3 ∷ 1 ∷ 0 ∷ 0 ∷ 0 ∷ 1 ∷ 0 ∷ 0 ∷ 2 ∷ 1 ∷ 0 ∷ 1 ∷ 0 ∷ 1 ∷ 1 ∷ 0 ∷ 2 ∷ 0 ∷ 1 ∷ 0 ∷ 3 ∷ 2 ∷ 3 ∷ 1 ∷ 0 ∷ 0 ∷ []) (2 ∷ 4 ∷ 1 ∷ 0 ∷ 0 ∷ 0 ∷ 1 ∷ 0 ∷ 0 ∷ 3 ∷ 1 ∷ 0 ∷ 0 ∷ 6 ∷ 1 ∷ 1 ∷ 2 ∷ 3 ∷ 7 ∷ 1 ∷ 0 ∷ 0 ∷ 0 ∷ 7 ∷ 1 ∷ 1 ∷ 4 ∷ 3 ∷ 8 ∷ 1 ∷ 0 ∷ 0 ∷ []) None None 1 0 1 (2 ∷ 1 ∷ 0 ∷ 0 ∷ 0 ∷ 1 ∷ 0 ∷ 1 ∷ 2 ∷ 0 ∷ 1 ∷ 0 ∷ 0 ∷ 1 ∷ 2 ∷ 7 ∷ 2 ∷ 0 ∷ 0 ∷ 0 ∷ []) ∷
    -- side input: machine 1 is not sorted
    case_of (0 ∷ 0 ∷ 4294967295 ∷ 0 ∷ 4294967295 ∷ 0 ∷ []) (1 ∷ 2 ∷ 1 ∷ 0 ∷ 0 ∷ 0 ∷ 1 ∷ 0 ∷ 0 ∷ 1 ∷ 4 ∷ 1 ∷ 0 ∷ 2 ∷ 2 ∷ 0 ∷ 1 ∷ 0 ∷ 0 ∷ []) mixed2 None None 0 0 0 (1 ∷ 1 ∷ 0 ∷ 0 ∷ 0 ∷ 1 ∷ 0 ∷ 1 ∷ 0 ∷ 6 ∷ 1 ∷ 0 ∷ 0 ∷ 1 ∷ 1 ∷ 7 ∷ 2 ∷ 0 ∷ 0 ∷ 0 ∷ 1 ∷ 8 ∷ 6 ∷ 0 ∷ 0 ∷ 0 ∷ 2 ∷ 0 ∷ 1 ∷ 0 ∷ 0 ∷ 0 ∷ []) ∷
    -- side both: lists of one length, direction input
    case_of (0 ∷ 0 ∷ 4294967295 ∷ 0 ∷ 4294967295 ∷ 0 ∷ []) (1 ∷ 3 ∷ 1 ∷ 0 ∷ 1 ∷ 0 ∷ 1 ∷ 0 ∷ 0 ∷ 1 ∷ 0 ∷ 1 ∷ 0 ∷ 2 ∷ 2 ∷ 4 ∷ 1 ∷ 0 ∷ 3 ∷ 3 ∷ 4 ∷ 2 ∷ 0 ∷ 0 ∷ []) (1 ∷ 3 ∷ 1 ∷ 1 ∷ 0 ∷ 0 ∷ 1 ∷ 1 ∷ 7 ∷ 0 ∷ 6 ∷ 1 ∷ 0 ∷ 2 ∷ 4 ∷ 7 ∷ 1 ∷ 0 ∷ 3 ∷ 4 ∷ 8 ∷ 5 ∷ 0 ∷ 0 ∷ []) None None 0 0 0 (3 ∷ 1 ∷ 0 ∷ 0 ∷ 0 ∷ 1 ∷ 0 ∷ 1 ∷ 0 ∷ 6 ∷ 1 ∷ 0 ∷ 0 ∷ 1 ∷ 1 ∷ 0 ∷ 1 ∷ 0 ∷ 0 ∷ 0 ∷ 2 ∷ 7 ∷ 2 ∷ 0 ∷ 0 ∷ 0 ∷ 2 ∷ 8 ∷ 6 ∷ 0 ∷ 0 ∷ 0 ∷ 3 ∷ 7 ∷ 3 ∷ 0 ∷ 0 ∷ 0 ∷ 3 ∷ 8 ∷ 7 ∷ 0 ∷ 0 ∷ 0 ∷ []) ∷
    -- side both: the shorter list is machine 2's, direction output
    case_of (0 ∷ 0 ∷ 4294967295 ∷ 0 ∷ 4294967295 ∷ 0 ∷ []) (1 ∷ 3 ∷ 1 ∷ 0 ∷ 1 ∷ 0 ∷ 1 ∷ 0 ∷ 0 ∷ 1 ∷ 0 ∷ 1 ∷ 0 ∷ 2 ∷ 2 ∷ 4 ∷ 1 ∷ 0 ∷ 3 ∷ 3 ∷ 4 ∷ 2 ∷ 0 ∷ 0 ∷ []) (1 ∷ 2 ∷ 1 ∷ 1 ∷ 0 ∷ 0 ∷ 1 ∷ 1 ∷ 7 ∷ 0 ∷ 6 ∷ 1 ∷ 0 ∷ 2 ∷ 4 ∷ 7 ∷ 1 ∷ 0 ∷ 0 ∷ []) None None 0 0 0 (3 ∷ 1 ∷ 0 ∷ 0 ∷ 0 ∷ 1 ∷ 0 ∷ 1 ∷ 1 ∷ 0 ∷ 1 ∷ 0 ∷ 0 ∷ 0 ∷ 0 ∷ 6 ∷ 1 ∷ 0 ∷ 0 ∷ 1 ∷ 2 ∷ 7 ∷ 2 ∷ 0 ∷ 0 ∷ 0 ∷ 3 ∷ 7 ∷ 3 ∷ 0 ∷ 0 ∷ 0 ∷ []) ∷
    -- side both: the state with a sigma transition decides
    case_of (0 ∷ 0 ∷ 4294967295 ∷ 0 ∷ 9 ∷ 2 ∷ []) (1 ∷ 4 ∷ 1 ∷ 0 ∷ 1 ∷ 0 ∷ 1 ∷ 1 ∷ 0 ∷ 1 ∷ 2 ∷ 0 ∷ 0 ∷ 2 ∷ 1 ∷ 4 ∷ 0 ∷ 0 ∷ 3 ∷ 2 ∷ 5 ∷ 0 ∷ 0 ∷ 4 ∷ 2 ∷ 6 ∷ 0 ∷ 0 ∷ 0 ∷ []) (1 ∷ 3 ∷ 1 ∷ 1 ∷ 0 ∷ 0 ∷ 1 ∷ 1 ∷ 0 ∷ 3 ∷ 6 ∷ 1 ∷ 0 ∷ 2 ∷ 9 ∷ 7 ∷ 2 ∷ 0 ∷ 3 ∷ 9 ∷ 9 ∷ 3 ∷ 0 ∷ 0 ∷ []) None None 0 0 0 (3 ∷ 1 ∷ 0 ∷ 0 ∷ 0 ∷ 2 ∷ 0 ∷ 1 ∷ 1 ∷ 7 ∷ 2 ∷ 0 ∷ 0 ∷ 0 ∷ 1 ∷ 9 ∷ 3 ∷ 0 ∷ 0 ∷ 0 ∷ 1 ∷ 7 ∷ 2 ∷ 0 ∷ 0 ∷ 0 ∷ 1 ∷ 9 ∷ 3 ∷ 0 ∷ 0 ∷ 0 ∷ 2 ∷ 7 ∷ 2 ∷ 0 ∷ 0 ∷ 0 ∷ 2 ∷ 9 ∷ 3 ∷ 0 ∷ 0 ∷ 0 ∷ 2 ∷ 7 ∷ 2 ∷ 0 ∷ 0 ∷ 0 ∷ 2 ∷ 9 ∷ 3 ∷ 0 ∷ 0 ∷ 0 ∷ []) ∷
    -- side output: the mark of machine 1 alone
    case_of (0 ∷ 0 ∷ 4294967295 ∷ 0 ∷ 4294967295 ∷ 0 ∷ []) (1 ∷ 2 ∷ 1 ∷ 0 ∷ 1 ∷ 0 ∷ 1 ∷ 0 ∷ 0 ∷ 1 ∷ 0 ∷ 1 ∷ 0 ∷ 2 ∷ 2 ∷ 4 ∷ 1 ∷ 0 ∷ 0 ∷ []) mixed2 None None 0 0 0 (2 ∷ 1 ∷ 0 ∷ 0 ∷ 0 ∷ 1 ∷ 0 ∷ 1 ∷ 1 ∷ 0 ∷ 1 ∷ 0 ∷ 0 ∷ 0 ∷ 0 ∷ 6 ∷ 1 ∷ 0 ∷ 0 ∷ 1 ∷ 2 ∷ 7 ∷ 2 ∷ 0 ∷ 0 ∷ 0 ∷ 2 ∷ 8 ∷ 6 ∷ 0 ∷ 0 ∷ 0 ∷ []) ∷
    -- side both: machine 1's state has a sigma transition
    case_of (0 ∷ 0 ∷ 9 ∷ 2 ∷ 4294967295 ∷ 0 ∷ []) (1 ∷ 1 ∷ 1 ∷ 0 ∷ 1 ∷ 0 ∷ 1 ∷ 1 ∷ 0 ∷ 1 ∷ 9 ∷ 0 ∷ 0 ∷ 0 ∷ []) (1 ∷ 2 ∷ 1 ∷ 1 ∷ 0 ∷ 0 ∷ 1 ∷ 1 ∷ 0 ∷ 3 ∷ 6 ∷ 0 ∷ 0 ∷ 2 ∷ 4 ∷ 7 ∷ 0 ∷ 0 ∷ 0 ∷ []) None None 0 0 0 (3 ∷ 1 ∷ 0 ∷ 0 ∷ 0 ∷ 2 ∷ 0 ∷ 1 ∷ 1 ∷ 6 ∷ 0 ∷ 0 ∷ 0 ∷ 0 ∷ 1 ∷ 7 ∷ 0 ∷ 0 ∷ 0 ∷ 0 ∷ []) ∷
    -- refusal 10: both states have one
    case_of (0 ∷ 0 ∷ 9 ∷ 0 ∷ 9 ∷ 0 ∷ []) (1 ∷ 1 ∷ 1 ∷ 0 ∷ 1 ∷ 0 ∷ 1 ∷ 1 ∷ 0 ∷ 1 ∷ 9 ∷ 0 ∷ 0 ∷ 0 ∷ []) (1 ∷ 3 ∷ 1 ∷ 1 ∷ 0 ∷ 0 ∷ 1 ∷ 1 ∷ 0 ∷ 3 ∷ 6 ∷ 1 ∷ 0 ∷ 2 ∷ 9 ∷ 7 ∷ 2 ∷ 0 ∷ 3 ∷ 9 ∷ 9 ∷ 3 ∷ 0 ∷ 0 ∷ []) None None 0 0 0 (3 ∷ 1 ∷ 0 ∷ 0 ∷ 0 ∷ 2 ∷ 0 ∷ 0 ∷ 10 ∷ []) ∷
    -- sigma, mode 0 without the acceptor mark, an allowed list
    case_of (0 ∷ 0 ∷ 4294967295 ∷ 0 ∷ 9 ∷ 0 ∷ []) (1 ∷ 3 ∷ 1 ∷ 0 ∷ 0 ∷ 0 ∷ 1 ∷ 1 ∷ 0 ∷ 2 ∷ 7 ∷ 0 ∷ 0 ∷ 2 ∷ 1 ∷ 5 ∷ 0 ∷ 0 ∷ 3 ∷ 1 ∷ 6 ∷ 0 ∷ 0 ∷ 0 ∷ []) (1 ∷ 3 ∷ 1 ∷ 0 ∷ 0 ∷ 0 ∷ 1 ∷ 1 ∷ 0 ∷ 3 ∷ 6 ∷ 1 ∷ 0 ∷ 2 ∷ 9 ∷ 7 ∷ 2 ∷ 0 ∷ 3 ∷ 9 ∷ 9 ∷ 3 ∷ 0 ∷ 0 ∷ []) None (Some (7 ∷ 5 ∷ [])) 0 0 0 (1 ∷ 1 ∷ 0 ∷ 0 ∷ 0 ∷ 2 ∷ 0 ∷ 1 ∷ 2 ∷ 7 ∷ 2 ∷ 0 ∷ 0 ∷ 0 ∷ 2 ∷ 9 ∷ 3 ∷ 0 ∷ 0 ∷ 0 ∷ 1 ∷ 7 ∷ 2 ∷ 0 ∷ 0 ∷ 0 ∷ 1 ∷ 9 ∷ 3 ∷ 0 ∷ 0 ∷ 0 ∷ []) ∷
    -- sigma on machine 1, mode 0 with the acceptor mark
    case_of (0 ∷ 2 ∷ 9 ∷ 0 ∷ 4294967295 ∷ 0 ∷ []) (1 ∷ 2 ∷ 1 ∷ 0 ∷ 0 ∷ 1 ∷ 1 ∷ 1 ∷ 0 ∷ 0 ∷ 0 ∷ 1 ∷ 0 ∷ 2 ∷ 9 ∷ 9 ∷ 2 ∷ 0 ∷ 0 ∷ []) mixed2 None None 0 0 0 (2 ∷ 1 ∷ 0 ∷ 0 ∷ 0 ∷ 2 ∷ 7 ∷ 1 ∷ 0 ∷ 0 ∷ 1 ∷ 0 ∷ 0 ∷ 1 ∷ 0 ∷ 6 ∷ 1 ∷ 0 ∷ 0 ∷ 2 ∷ 0 ∷ 6 ∷ 2 ∷ 0 ∷ 0 ∷ 0 ∷ 4 ∷ 7 ∷ 3 ∷ 0 ∷ 0 ∷ 0 ∷ 4 ∷ 8 ∷ 7 ∷ 0 ∷ 0 ∷ 0 ∷ []) ∷
    -- sigma on machine 1, mode 1: the side that does not hold sigma stays
    case_of (0 ∷ 0 ∷ 9 ∷ 1 ∷ 4294967295 ∷ 0 ∷ []) (1 ∷ 1 ∷ 1 ∷ 0 ∷ 0 ∷ 0 ∷ 1 ∷ 1 ∷ 0 ∷ 1 ∷ 9 ∷ 0 ∷ 0 ∷ 0 ∷ []) (1 ∷ 1 ∷ 1 ∷ 0 ∷ 0 ∷ 0 ∷ 1 ∷ 1 ∷ 0 ∷ 3 ∷ 6 ∷ 0 ∷ 0 ∷ 0 ∷ []) None None 0 0 0 (2 ∷ 1 ∷ 0 ∷ 0 ∷ 0 ∷ 2 ∷ 0 ∷ 1 ∷ 1 ∷ 6 ∷ 0 ∷ 0 ∷ 0 ∷ 0 ∷ []) ∷
    -- sigma on machine 1, an empty allowed list
    case_of (0 ∷ 2 ∷ 9 ∷ 0 ∷ 4294967295 ∷ 0 ∷ []) (1 ∷ 2 ∷ 1 ∷ 0 ∷ 0 ∷ 1 ∷ 1 ∷ 1 ∷ 0 ∷ 0 ∷ 0 ∷ 1 ∷ 0 ∷ 2 ∷ 9 ∷ 9 ∷ 2 ∷ 0 ∷ 0 ∷ []) mixed2 (Some ([])) None 0 0 0 (2 ∷ 1 ∷ 0 ∷ 0 ∷ 0 ∷ 2 ∷ 7 ∷ 1 ∷ 0 ∷ 0 ∷ 1 ∷ 0 ∷ 0 ∷ 1 ∷ 0 ∷ 6 ∷ 1 ∷ 0 ∷ 0 ∷ 2 ∷ 0 ∷ 6 ∷ 2 ∷ 0 ∷ 0 ∷ 0 ∷ []) ∷
    -- refusal 11: a walked label is sigma, after kept moves
    case_of (0 ∷ 0 ∷ 4294967295 ∷ 0 ∷ 9 ∷ 1 ∷ []) (1 ∷ 3 ∷ 1 ∷ 0 ∷ 0 ∷ 0 ∷ 1 ∷ 1 ∷ 0 ∷ 2 ∷ 5 ∷ 0 ∷ 0 ∷ 2 ∷ 1 ∷ 9 ∷ 0 ∷ 0 ∷ 3 ∷ 1 ∷ 5 ∷ 0 ∷ 0 ∷ 0 ∷ []) (1 ∷ 3 ∷ 1 ∷ 0 ∷ 0 ∷ 0 ∷ 1 ∷ 1 ∷ 0 ∷ 3 ∷ 6 ∷ 1 ∷ 0 ∷ 2 ∷ 9 ∷ 7 ∷ 2 ∷ 0 ∷ 3 ∷ 9 ∷ 9 ∷ 3 ∷ 0 ∷ 0 ∷ []) None None 0 0 0 (1 ∷ 1 ∷ 0 ∷ 0 ∷ 0 ∷ 2 ∷ 0 ∷ 0 ∷ 11 ∷ []) ∷
    -- sigma beside an explicit label, an allowed list without the label
    case_of (0 ∷ 0 ∷ 4294967295 ∷ 0 ∷ 9 ∷ 1 ∷ []) (1 ∷ 2 ∷ 1 ∷ 0 ∷ 0 ∷ 0 ∷ 1 ∷ 1 ∷ 0 ∷ 1 ∷ 3 ∷ 0 ∷ 0 ∷ 2 ∷ 2 ∷ 5 ∷ 0 ∷ 0 ∷ 0 ∷ []) (1 ∷ 3 ∷ 1 ∷ 1 ∷ 0 ∷ 0 ∷ 1 ∷ 1 ∷ 0 ∷ 3 ∷ 6 ∷ 1 ∷ 0 ∷ 2 ∷ 9 ∷ 7 ∷ 2 ∷ 0 ∷ 3 ∷ 9 ∷ 9 ∷ 3 ∷ 0 ∷ 0 ∷ []) None (Some (4 ∷ 5 ∷ [])) 0 0 0 (1 ∷ 1 ∷ 0 ∷ 0 ∷ 0 ∷ 2 ∷ 0 ∷ 1 ∷ 1 ∷ 6 ∷ 1 ∷ 0 ∷ 0 ∷ 0 ∷ 2 ∷ 7 ∷ 2 ∷ 0 ∷ 0 ∷ 0 ∷ 2 ∷ 5 ∷ 3 ∷ 0 ∷ 0 ∷ 0 ∷ []) ∷
    -- sigma beside an explicit label, an empty allowed list
    case_of (0 ∷ 0 ∷ 4294967295 ∷ 0 ∷ 9 ∷ 1 ∷ []) (1 ∷ 2 ∷ 1 ∷ 0 ∷ 0 ∷ 0 ∷ 1 ∷ 1 ∷ 0 ∷ 1 ∷ 3 ∷ 0 ∷ 0 ∷ 2 ∷ 2 ∷ 5 ∷ 0 ∷ 0 ∷ 0 ∷ []) (1 ∷ 3 ∷ 1 ∷ 1 ∷ 0 ∷ 0 ∷ 1 ∷ 1 ∷ 0 ∷ 3 ∷ 6 ∷ 1 ∷ 0 ∷ 2 ∷ 9 ∷ 7 ∷ 2 ∷ 0 ∷ 3 ∷ 9 ∷ 9 ∷ 3 ∷ 0 ∷ 0 ∷ []) None (Some ([])) 0 0 0 (1 ∷ 1 ∷ 0 ∷ 0 ∷ 0 ∷ 2 ∷ 0 ∷ 1 ∷ 1 ∷ 6 ∷ 1 ∷ 0 ∷ 0 ∷ 0 ∷ []) ∷
    -- refusal 12: the second kept move is too large
    case_of (0 ∷ 0 ∷ 4294967295 ∷ 0 ∷ 4294967295 ∷ 0 ∷ []) (1 ∷ 2 ∷ 1 ∷ 0 ∷ 0 ∷ 0 ∷ 1 ∷ 1 ∷ 0 ∷ 1 ∷ 3 ∷ 1 ∷ 0 ∷ 2 ∷ 2 ∷ 3 ∷ 2147483648 ∷ 0 ∷ 0 ∷ []) (1 ∷ 1 ∷ 1 ∷ 0 ∷ 0 ∷ 0 ∷ 1 ∷ 1 ∷ 0 ∷ 3 ∷ 4 ∷ 2147483647 ∷ 0 ∷ 0 ∷ []) None None 0 0 0 (2 ∷ 1 ∷ 0 ∷ 0 ∷ 0 ∷ 2 ∷ 0 ∷ 0 ∷ 12 ∷ []) ∷
    -- a final weight too large
    case_of (0 ∷ 0 ∷ 4294967295 ∷ 0 ∷ 4294967295 ∷ 0 ∷ []) (1 ∷ 0 ∷ 1 ∷ 0 ∷ 0 ∷ 0 ∷ 0 ∷ 1 ∷ 2147483648 ∷ []) (1 ∷ 0 ∷ 1 ∷ 0 ∷ 0 ∷ 0 ∷ 0 ∷ 1 ∷ 2147483647 ∷ []) None None 0 0 0 (2 ∷ 1 ∷ 0 ∷ 0 ∷ 0 ∷ 0 ∷ 12 ∷ 1 ∷ []) ∷
    -- a cost MAX absorbs, a final weight zero is not final
    case_of (0 ∷ 0 ∷ 4294967295 ∷ 0 ∷ 4294967295 ∷ 0 ∷ []) (1 ∷ 1 ∷ 1 ∷ 0 ∷ 0 ∷ 0 ∷ 1 ∷ 1 ∷ 4294967295 ∷ 1 ∷ 3 ∷ 4294967295 ∷ 0 ∷ 0 ∷ []) (1 ∷ 1 ∷ 1 ∷ 0 ∷ 0 ∷ 0 ∷ 1 ∷ 1 ∷ 4294967294 ∷ 3 ∷ 4 ∷ 4294967294 ∷ 0 ∷ 0 ∷ []) None None 0 0 0 (2 ∷ 1 ∷ 0 ∷ 0 ∷ 0 ∷ 1 ∷ 0 ∷ 1 ∷ 1 ∷ 4 ∷ 4294967295 ∷ 0 ∷ 0 ∷ 0 ∷ []) ∷
    -- lists that share a tail
    case_of (0 ∷ 0 ∷ 4294967295 ∷ 0 ∷ 4294967295 ∷ 0 ∷ []) (2 ∷ 3 ∷ 2 ∷ 0 ∷ 0 ∷ 0 ∷ 1 ∷ 0 ∷ 0 ∷ 2 ∷ 1 ∷ 4 ∷ 5 ∷ 1 ∷ 1 ∷ 0 ∷ 3 ∷ 6 ∷ 2 ∷ 1 ∷ 1 ∷ 3 ∷ 7 ∷ 3 ∷ 1 ∷ 0 ∷ 0 ∷ []) (1 ∷ 3 ∷ 1 ∷ 0 ∷ 0 ∷ 0 ∷ 1 ∷ 1 ∷ 0 ∷ 1 ∷ 8 ∷ 0 ∷ 0 ∷ 2 ∷ 2 ∷ 9 ∷ 0 ∷ 0 ∷ 3 ∷ 3 ∷ 9 ∷ 0 ∷ 0 ∷ 0 ∷ []) None None 1 0 0 (2 ∷ 1 ∷ 1 ∷ 0 ∷ 0 ∷ 2 ∷ 4 ∷ 1 ∷ 6 ∷ 9 ∷ 1 ∷ 1 ∷ 0 ∷ 0 ∷ 7 ∷ 9 ∷ 1 ∷ 0 ∷ 0 ∷ 0 ∷ []) ∷
    -- a final weight zero is final for the filters
    case_of (0 ∷ 1 ∷ 4294967295 ∷ 0 ∷ 4294967295 ∷ 0 ∷ []) (1 ∷ 1 ∷ 1 ∷ 0 ∷ 0 ∷ 0 ∷ 1 ∷ 0 ∷ 0 ∷ 2 ∷ 0 ∷ 0 ∷ 0 ∷ 0 ∷ []) (1 ∷ 0 ∷ 1 ∷ 0 ∷ 0 ∷ 0 ∷ 0 ∷ 1 ∷ 4294967295 ∷ []) None None 0 0 0 (2 ∷ 1 ∷ 0 ∷ 0 ∷ 0 ∷ 1 ∷ 0 ∷ 1 ∷ 2 ∷ 0 ∷ 0 ∷ 0 ∷ 0 ∷ 0 ∷ []) ∷
    -- refusal 5
    case_of (0 ∷ 0 ∷ 9 ∷ 0 ∷ 4294967295 ∷ 0 ∷ []) (1 ∷ 2 ∷ 1 ∷ 0 ∷ 0 ∷ 0 ∷ 1 ∷ 0 ∷ 0 ∷ 1 ∷ 4 ∷ 1 ∷ 0 ∷ 2 ∷ 2 ∷ 0 ∷ 1 ∷ 0 ∷ 0 ∷ []) mixed2 None None 0 0 0 (0 ∷ 5 ∷ []) ∷
    -- refusal 6
    case_of (0 ∷ 0 ∷ 4294967295 ∷ 0 ∷ 9 ∷ 0 ∷ []) mixed1 (1 ∷ 2 ∷ 1 ∷ 0 ∷ 0 ∷ 0 ∷ 1 ∷ 0 ∷ 0 ∷ 4 ∷ 4 ∷ 1 ∷ 0 ∷ 2 ∷ 2 ∷ 0 ∷ 1 ∷ 0 ∷ 0 ∷ []) None None 0 0 0 (0 ∷ 6 ∷ []) ∷
    -- refusal 7
    case_of (0 ∷ 0 ∷ 4294967295 ∷ 0 ∷ 4294967295 ∷ 0 ∷ []) (1 ∷ 2 ∷ 1 ∷ 0 ∷ 0 ∷ 0 ∷ 1 ∷ 0 ∷ 0 ∷ 1 ∷ 4 ∷ 1 ∷ 0 ∷ 2 ∷ 2 ∷ 0 ∷ 1 ∷ 0 ∷ 0 ∷ []) (1 ∷ 2 ∷ 1 ∷ 0 ∷ 0 ∷ 0 ∷ 1 ∷ 0 ∷ 0 ∷ 4 ∷ 4 ∷ 1 ∷ 0 ∷ 2 ∷ 2 ∷ 0 ∷ 1 ∷ 0 ∷ 0 ∷ []) None None 0 0 0 (0 ∷ 7 ∷ []) ∷
    -- refusal 4, machine 1's sigma
    case_of (0 ∷ 0 ∷ 0 ∷ 0 ∷ 4294967295 ∷ 0 ∷ []) mixed1 mixed2 None None 0 0 0 (0 ∷ 4 ∷ []) ∷
    -- refusal 4, machine 2's sigma
    case_of (0 ∷ 0 ∷ 4294967295 ∷ 0 ∷ 0 ∷ 0 ∷ []) mixed1 mixed2 None None 0 0 0 (0 ∷ 4 ∷ []) ∷
    []

-- a label that is looked up has own and sigma matches: the answers are the definition's, worked out by tests/model.py
unfoldable pub our_cases : List Case
unfolding case_of
our_cases =
    -- sigma beside an explicit label
    case_of (0 ∷ 0 ∷ 4294967295 ∷ 0 ∷ 9 ∷ 1 ∷ []) (1 ∷ 2 ∷ 1 ∷ 0 ∷ 0 ∷ 0 ∷ 1 ∷ 1 ∷ 0 ∷ 1 ∷ 3 ∷ 0 ∷ 0 ∷ 2 ∷ 2 ∷ 5 ∷ 0 ∷ 0 ∷ 0 ∷ []) (1 ∷ 3 ∷ 1 ∷ 1 ∷ 0 ∷ 0 ∷ 1 ∷ 1 ∷ 0 ∷ 3 ∷ 6 ∷ 1 ∷ 0 ∷ 2 ∷ 9 ∷ 7 ∷ 2 ∷ 0 ∷ 3 ∷ 9 ∷ 9 ∷ 3 ∷ 0 ∷ 0 ∷ []) None None 0 0 0 (1 ∷ 1 ∷ 0 ∷ 0 ∷ 0 ∷ 2 ∷ 0 ∷ 1 ∷ 1 ∷ 6 ∷ 1 ∷ 0 ∷ 0 ∷ 0 ∷ 1 ∷ 7 ∷ 2 ∷ 0 ∷ 0 ∷ 0 ∷ 1 ∷ 3 ∷ 3 ∷ 0 ∷ 0 ∷ 0 ∷ 2 ∷ 7 ∷ 2 ∷ 0 ∷ 0 ∷ 0 ∷ 2 ∷ 5 ∷ 3 ∷ 0 ∷ 0 ∷ 0 ∷ []) ∷
    -- sigma beside an explicit label, mode 2, an allowed list with the label
    case_of (0 ∷ 0 ∷ 4294967295 ∷ 0 ∷ 9 ∷ 2 ∷ []) (1 ∷ 2 ∷ 1 ∷ 0 ∷ 0 ∷ 0 ∷ 1 ∷ 1 ∷ 0 ∷ 1 ∷ 3 ∷ 0 ∷ 0 ∷ 2 ∷ 2 ∷ 5 ∷ 0 ∷ 0 ∷ 0 ∷ []) (1 ∷ 3 ∷ 1 ∷ 1 ∷ 0 ∷ 0 ∷ 1 ∷ 1 ∷ 0 ∷ 3 ∷ 6 ∷ 1 ∷ 0 ∷ 2 ∷ 9 ∷ 7 ∷ 2 ∷ 0 ∷ 3 ∷ 9 ∷ 9 ∷ 3 ∷ 0 ∷ 0 ∷ []) None (Some (4 ∷ 3 ∷ [])) 0 0 0 (1 ∷ 1 ∷ 0 ∷ 0 ∷ 0 ∷ 2 ∷ 0 ∷ 1 ∷ 1 ∷ 6 ∷ 1 ∷ 0 ∷ 0 ∷ 0 ∷ 1 ∷ 7 ∷ 2 ∷ 0 ∷ 0 ∷ 0 ∷ 1 ∷ 9 ∷ 3 ∷ 0 ∷ 0 ∷ 0 ∷ []) ∷
    -- sigma of machine 1 beside an explicit label, mode 0 with the acceptor mark
    case_of (1 ∷ 0 ∷ 9 ∷ 0 ∷ 4294967295 ∷ 0 ∷ []) (1 ∷ 2 ∷ 1 ∷ 0 ∷ 0 ∷ 1 ∷ 1 ∷ 1 ∷ 1 ∷ 3 ∷ 3 ∷ 2 ∷ 0 ∷ 2 ∷ 9 ∷ 9 ∷ 3 ∷ 0 ∷ 0 ∷ []) (1 ∷ 2 ∷ 1 ∷ 0 ∷ 0 ∷ 0 ∷ 1 ∷ 1 ∷ 1 ∷ 4 ∷ 6 ∷ 5 ∷ 0 ∷ 2 ∷ 3 ∷ 7 ∷ 7 ∷ 0 ∷ 0 ∷ []) None None 0 0 0 (2 ∷ 1 ∷ 0 ∷ 0 ∷ 0 ∷ 2 ∷ 1 ∷ 1 ∷ 4 ∷ 6 ∷ 15 ∷ 0 ∷ 0 ∷ 0 ∷ 3 ∷ 7 ∷ 14 ∷ 0 ∷ 0 ∷ 0 ∷ 3 ∷ 7 ∷ 21 ∷ 0 ∷ 0 ∷ 0 ∷ []) ∷
    -- side both: a sigma below the label, with two transitions each
    case_of (0 ∷ 0 ∷ 4294967295 ∷ 0 ∷ 2 ∷ 0 ∷ []) (1 ∷ 1 ∷ 1 ∷ 0 ∷ 1 ∷ 0 ∷ 1 ∷ 1 ∷ 0 ∷ 1 ∷ 3 ∷ 0 ∷ 0 ∷ 0 ∷ []) (1 ∷ 4 ∷ 1 ∷ 1 ∷ 0 ∷ 0 ∷ 1 ∷ 1 ∷ 0 ∷ 2 ∷ 6 ∷ 1 ∷ 0 ∷ 2 ∷ 2 ∷ 2 ∷ 2 ∷ 0 ∷ 3 ∷ 3 ∷ 7 ∷ 3 ∷ 0 ∷ 4 ∷ 3 ∷ 8 ∷ 4 ∷ 0 ∷ 0 ∷ []) None None 0 0 0 (3 ∷ 1 ∷ 0 ∷ 0 ∷ 0 ∷ 2 ∷ 0 ∷ 1 ∷ 1 ∷ 7 ∷ 3 ∷ 0 ∷ 0 ∷ 0 ∷ 1 ∷ 8 ∷ 4 ∷ 0 ∷ 0 ∷ 0 ∷ 1 ∷ 6 ∷ 1 ∷ 0 ∷ 0 ∷ 0 ∷ 1 ∷ 2 ∷ 2 ∷ 0 ∷ 0 ∷ 0 ∷ []) ∷
    -- refusal 12: a sigma match after own ones is too large
    case_of (0 ∷ 0 ∷ 4294967295 ∷ 0 ∷ 9 ∷ 0 ∷ []) (1 ∷ 1 ∷ 1 ∷ 0 ∷ 0 ∷ 0 ∷ 1 ∷ 1 ∷ 0 ∷ 1 ∷ 3 ∷ 2147483648 ∷ 0 ∷ 0 ∷ []) (1 ∷ 2 ∷ 1 ∷ 1 ∷ 0 ∷ 0 ∷ 1 ∷ 1 ∷ 0 ∷ 3 ∷ 6 ∷ 1 ∷ 0 ∷ 2 ∷ 9 ∷ 7 ∷ 2147483647 ∷ 0 ∷ 0 ∷ []) None None 0 0 0 (1 ∷ 1 ∷ 0 ∷ 0 ∷ 0 ∷ 2 ∷ 0 ∷ 0 ∷ 12 ∷ []) ∷
    []
