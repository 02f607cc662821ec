-- 01, "The listing", proved cases (★) 1 to 10, in one table under one theorem.
use mathlib.Core.Path.{refl}
use mathlib.Core.List.{List, [], ◌∷◌, Memᴰ as In}
use Rattle.std.specs.Prelude.{None, Some}
use Prim.Native.Nat.{ℕ}
use lib.ListN.{replicate, set}
use Rattle.words.specs.Labels.{MAX}
use Rattle.words.specs.Steps.{Triple}
use Rattle.words.specs.Settings.{Lent}
use Rattle.calls.specs.Checks.{Session}
use Rattle.calls.specs.Sequences.{World, opening, expand, final_weight, records, run, Said, refusal, accepted, part, weight, answered, handed}
use Rattle.calls.specs.Listing.{side_line, state_line, tr_line, end_line, settings_of}
use Rattle.calls.proofs.Cases.{Case, printing, calling, Holds, AllHold, each_holds}

-- kind, filter; no sigma
abbrev pub plain : ℕ → ℕ → List ℕ
plain kind filter = kind ∷ filter ∷ MAX ∷ 0 ∷ MAX ∷ 0 ∷ []

abbrev pub lend_with : List ℕ → List ℕ → List ℕ → Lent
lend_with xs m1 m2 = record { m1 = m1; m2 = m2; allowed1 = None; allowed2 = None; ignored = xs }

abbrev pub lend : List ℕ → List ℕ → Lent
lend = lend_with []

abbrev pub triple : ℕ → ℕ → ℕ → Triple
triple s1 s2 f = record { s1 = s1; s2 = s2; f = f }

abbrev pub session : List ℕ → ℕ → ℕ → ℕ → Session
session w side states trs = record { settings = settings_of w; side = side; used = record { states = states; trs = trs } }

abbrev pub world : Session → List ℕ → List ℕ → List ℕ → World
world s heads states trs = record { session = s; memory = record { heads = heads; states = states; trs = trs } }

abbrev pub list_part : ℕ → ℕ → Said
list_part first count = part (record { first = first; count = count })

-- the two machines of case 1
abbrev pub example1 : List ℕ
example1 = 3 ∷ 2 ∷ 1 ∷ 0 ∷ 0 ∷ 0 ∷ 1 ∷ 0 ∷ 0 ∷ 2 ∷ 0 ∷ 0 ∷ 0 ∷ 1 ∷ 0 ∷ 1 ∷ 0 ∷ 1 ∷ 1 ∷ 0 ∷ 2 ∷ 5 ∷ 2 ∷ 2 ∷ 0 ∷ []

abbrev pub example2 : List ℕ
example2 = 3 ∷ 2 ∷ 1 ∷ 0 ∷ 0 ∷ 0 ∷ 1 ∷ 0 ∷ 0 ∷ 2 ∷ 0 ∷ 0 ∷ 0 ∷ 1 ∷ 3 ∷ 0 ∷ 7 ∷ 4 ∷ 1 ∷ 0 ∷ 5 ∷ 8 ∷ 1 ∷ 2 ∷ 0 ∷ []

-- one state, final with weight w, and on it one transition 1:1 of weight w
abbrev pub weighing : ℕ → List ℕ
weighing w = 1 ∷ 1 ∷ 1 ∷ 0 ∷ 0 ∷ 0 ∷ 1 ∷ 1 ∷ w ∷ 1 ∷ 1 ∷ w ∷ 0 ∷ 0 ∷ []

-- marks 1, one state, lists of two transitions: 1:4 and 2:4; 4:7 and 4:8
abbrev pub marked1 : List ℕ
marked1 = 1 ∷ 2 ∷ 1 ∷ 0 ∷ 1 ∷ 0 ∷ 1 ∷ 0 ∷ 0 ∷ 1 ∷ 4 ∷ 0 ∷ 0 ∷ 2 ∷ 2 ∷ 4 ∷ 0 ∷ 0 ∷ 0 ∷ []

abbrev pub marked2 : List ℕ
marked2 = 1 ∷ 2 ∷ 1 ∷ 1 ∷ 0 ∷ 0 ∷ 1 ∷ 0 ∷ 0 ∷ 4 ∷ 7 ∷ 0 ∷ 0 ∷ 2 ∷ 4 ∷ 8 ∷ 0 ∷ 0 ∷ 0 ∷ []

-- the memory of cases 5 to 8 at first: one head, room for one record of each sort, words of no meaning
abbrev little : World
little = world (session (plain 0 0) 9 9 9) (7 ∷ []) (7 ∷ 7 ∷ 7 ∷ 7 ∷ 7 ∷ 7 ∷ []) (7 ∷ 7 ∷ 7 ∷ 7 ∷ 7 ∷ [])

-- the state of `weighing` is expanded, and final: its product of weights is p
abbrev weighs : ℕ → ℕ → ℕ → ℕ → Case
weighs kind w1 w2 p =
    let new = session (plain kind 0) 1 1 0 in
    let next = session (plain kind 0) 1 1 1 in
    calling (lend (weighing w1) (weighing w2)) little
    (opening (settings_of (plain kind 0)) (lend (weighing w1) (weighing w2)) ∷ final_weight 0 ∷ expand 0 ∷ records 0 ∷ [])
    (answered accepted new ∷ answered (weight (Some p)) new ∷ answered (list_part 1 1) next ∷ handed (1 ∷ 1 ∷ p ∷ 0 ∷ 0 ∷ []) ∷ [])
    (world next (1 ∷ []) (0 ∷ 0 ∷ 0 ∷ 1 ∷ 1 ∷ 0 ∷ []) (1 ∷ 1 ∷ p ∷ 0 ∷ 0 ∷ []))

-- 12 for its final weight, its expansion and a run, which keep session and memory
abbrev too_large_lem : ℕ → ℕ → ℕ → Case
too_large_lem kind w1 w2 =
    let new = session (plain kind 0) 1 1 0 in
    calling (lend (weighing w1) (weighing w2)) little
    (opening (settings_of (plain kind 0)) (lend (weighing w1) (weighing w2)) ∷ final_weight 0 ∷ expand 0 ∷ run ∷ records 0 ∷ [])
    (answered accepted new ∷ answered (refusal 12) new ∷ answered (refusal 12) new ∷ answered (refusal 12) new ∷ handed [] ∷ [])
    (world new (1 ∷ []) (0 ∷ 0 ∷ 0 ∷ 0 ∷ 0 ∷ 0 ∷ []) (7 ∷ 7 ∷ 7 ∷ 7 ∷ 7 ∷ []))

unfoldable pub star_cases : List Case
star_cases =
    -- 1 "this"
    printing (plain 0 0) example1 example2
    (side_line 1
    ∷ state_line 0 (triple 0 0 0) None
    ∷ tr_line 1 0 1 1
    ∷ state_line 1 (triple 1 0 0) None
    ∷ tr_line 0 7 4 2
    ∷ state_line 2 (triple 1 1 0) None
    ∷ tr_line 2 8 3 3
    ∷ state_line 3 (triple 2 2 0) (Some 3)
    ∷ end_line 4 3
    ∷ [])
    -- 2 "alternate, 4 states, 3 transitions"
    ∷ printing (plain 0 1) example1 example2
    (side_line 1
    ∷ state_line 0 (triple 0 0 0) None
    ∷ tr_line 0 7 4 1
    ∷ state_line 1 (triple 0 1 0) None
    ∷ tr_line 1 0 1 2
    ∷ state_line 2 (triple 1 1 0) None
    ∷ tr_line 2 8 3 3
    ∷ state_line 3 (triple 2 2 0) (Some 3)
    ∷ end_line 4 3
    ∷ [])
    -- 3 "match, 3 states, 2 transitions, first 1:7 weight 5"
    ∷ printing (plain 0 2) example1 example2
    (side_line 1
    ∷ state_line 0 (triple 0 0 0) None
    ∷ tr_line 1 7 5 1
    ∷ state_line 1 (triple 1 1 0) None
    ∷ tr_line 2 8 3 2
    ∷ state_line 2 (triple 2 2 0) (Some 3)
    ∷ end_line 3 2
    ∷ [])
    -- 4 "no start, none found"
    ∷ printing (plain 0 0) (set example1 2 0) example2 (side_line 1 ∷ end_line 0 0 ∷ [])
    -- 5 "costs 2147483647 twice give 4294967294", 6 "with 2147483648 once, 12"
    ∷ weighs 0 2147483647 2147483647 4294967294
    ∷ too_large_lem 0 2147483648 2147483647
    -- 7 "counts 65535 × 65537 give MAX", 8 "65536 × 65536, 12"
    ∷ weighs 1 65535 65537 MAX
    ∷ too_large_lem 1 65536 65536
    -- 9 "state room 3 in case 1, expanding 2 gives 13"
    ∷ (let new = session (plain 0 0) 1 in
    calling (lend example1 example2) (world (session [] 0 0 0) (0 ∷ []) (replicate 18 0) (replicate 15 0))
    (opening (settings_of (plain 0 0)) (lend example1 example2) ∷ expand 0 ∷ expand 1 ∷ expand 2 ∷ [])
    (answered accepted (new 1 0) ∷ answered (list_part 1 1) (new 2 1) ∷ answered (list_part 2 1) (new 3 2) ∷ answered (refusal 13) (new 3 2) ∷ [])
    (world (new 3 2) (3 ∷ []) (0 ∷ 0 ∷ 0 ∷ 1 ∷ 1 ∷ 0 ∷ 1 ∷ 0 ∷ 0 ∷ 1 ∷ 2 ∷ 1 ∷ 1 ∷ 1 ∷ 0 ∷ 0 ∷ 0 ∷ 2 ∷ []) (1 ∷ 0 ∷ 1 ∷ 1 ∷ 0 ∷ 0 ∷ 7 ∷ 4 ∷ 2 ∷ 0 ∷ replicate 5 0)))
    -- 10 "marks 1 and equal lists, input": the list of machine 1 is walked
    ∷ printing (plain 0 0) marked1 marked2
    (side_line 2 ∷ state_line 0 (triple 0 0 0) None ∷ tr_line 1 7 0 0 ∷ tr_line 1 8 0 0 ∷ tr_line 2 7 0 0 ∷ tr_line 2 8 0 0 ∷ end_line 1 4 ∷ [])
    ∷ []

star_cases_lem : AllHold star_cases
unfolding AllHold Holds star_cases
star_cases_lem = (refl, (refl, (refl, (refl, ((refl, refl), ((refl, refl), ((refl, refl), ((refl, refl), ((refl, refl), (refl, tt))))))))))

-- each case of the table holds
pub star_case : (c : Case) → In c star_cases → Holds c
star_case c i = each_holds star_cases star_cases_lem c i
