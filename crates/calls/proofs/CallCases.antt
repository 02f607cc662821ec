-- Lists of calls that refuse the wrong programs of 01, "A reviewer will try", and the slips near them, in one table under one theorem.
use mathlib.Core.Path.{refl}
use mathlib.Core.List.{List, [], ◌∷◌, Memᴰ as In}
use Rattle.std.specs.Prelude.{None, Some}
use Prim.Native.Nat.{ℕ}
use lib.ListN.{replicate, set}
use Rattle.words.specs.Labels.{MAX}
use Rattle.words.specs.Settings.{Lent}
use Rattle.calls.specs.Checks.{Session}
use Rattle.calls.specs.Sequences.{World, Call, opening, expand, final_weight, records, run, refusal, accepted, weight, answered, handed}
use Rattle.calls.specs.Listing.{side_line, state_line, tr_line, end_line, settings_of}
use Rattle.calls.proofs.Cases.{Case, printing, calling, Holds, AllHold, each_holds}
use Rattle.calls.proofs.StarCases.{plain, lend, triple, session, world, list_part, example1, example2, marked1, marked2}

-- the machines of case 1, sequence filter, and the sessions of their composition
abbrev both : Lent
both = lend example1 example2

abbrev opens : Call
opens = opening (settings_of (plain 0 0)) both

abbrev with : ℕ → ℕ → Session
with states trs = session (plain 0 0) 1 states trs

-- a session and slices of words without meaning
abbrev before : List ℕ → List ℕ → List ℕ → World
before heads states trs = world (session (1 ∷ 2 ∷ 3 ∷ 4 ∷ 5 ∷ 6 ∷ []) 7 8 9) heads states trs

-- one state on which two transitions 1:4 and 1:4 lead to a second, and a transition 2:6 back to the first
abbrev twice : List ℕ
twice = 2 ∷ 3 ∷ 1 ∷ 0 ∷ 1 ∷ 0 ∷ 1 ∷ 0 ∷ 0 ∷ 0 ∷ 1 ∷ 0 ∷ 1 ∷ 4 ∷ 0 ∷ 1 ∷ 2 ∷ 1 ∷ 4 ∷ 0 ∷ 1 ∷ 3 ∷ 2 ∷ 6 ∷ 5 ∷ 0 ∷ 0 ∷ []

-- one state with 4:4, 6:6 of weight w and 8:8
abbrev loops : ℕ → List ℕ
loops w = 1 ∷ 3 ∷ 1 ∷ 0 ∷ 0 ∷ 0 ∷ 1 ∷ 1 ∷ 0 ∷ 4 ∷ 4 ∷ 0 ∷ 0 ∷ 2 ∷ 6 ∷ 6 ∷ w ∷ 0 ∷ 3 ∷ 8 ∷ 8 ∷ 0 ∷ 0 ∷ 0 ∷ []

-- sigma of machine 1 is the label given: with side output it is looked up there
abbrev sigma1 : ℕ → List ℕ
sigma1 x = 0 ∷ 0 ∷ x ∷ 0 ∷ MAX ∷ 0 ∷ []

unfoldable pub call_cases : List Case
call_cases =
    -- Room for just what is found: no 13 before memory is full, every list is stored, used counts are the records found, words past them stay.
    calling both (before (9 ∷ 9 ∷ []) (replicate 28 8) (replicate 17 8))
    (opens ∷ run ∷ records 0 ∷ records 1 ∷ records 2 ∷ records 3 ∷ final_weight 2 ∷ final_weight 3 ∷ expand 4 ∷ [])
    (answered accepted (with 1 0)
    ∷ answered accepted (with 4 3)
    ∷ handed (1 ∷ 0 ∷ 1 ∷ 1 ∷ 0 ∷ [])
    ∷ handed (0 ∷ 7 ∷ 4 ∷ 2 ∷ 0 ∷ [])
    ∷ handed (2 ∷ 8 ∷ 3 ∷ 3 ∷ 0 ∷ [])
    ∷ handed []
    ∷ answered (weight None) (with 4 3)
    ∷ answered (weight (Some 3)) (with 4 3)
    ∷ answered (refusal 9) (with 4 3)
    ∷ [])
    (world (with 4 3) (4 ∷ 2 ∷ [])
    (0 ∷ 0 ∷ 0 ∷ 1 ∷ 1 ∷ 0 ∷ 1 ∷ 0 ∷ 0 ∷ 1 ∷ 2 ∷ 0 ∷ 1 ∷ 1 ∷ 0 ∷ 1 ∷ 3 ∷ 1 ∷ 2 ∷ 2 ∷ 0 ∷ 1 ∷ 0 ∷ 3 ∷ 8 ∷ 8 ∷ 8 ∷ 8 ∷ [])
    (1 ∷ 0 ∷ 1 ∷ 1 ∷ 0 ∷ 0 ∷ 7 ∷ 4 ∷ 2 ∷ 0 ∷ 2 ∷ 8 ∷ 3 ∷ 3 ∷ 0 ∷ 8 ∷ 8 ∷ []))
    -- A state record too few: the run keeps two expansions and their session; a second run, and what was given, stay the same.
    ∷ calling both (before (0 ∷ []) (replicate 23 0) (replicate 15 0))
    (opens ∷ run ∷ run ∷ expand 1 ∷ records 1 ∷ records 2 ∷ [])
    (answered accepted (with 1 0) ∷ answered (refusal 13) (with 3 2) ∷ answered (refusal 13) (with 3 2) ∷ answered (list_part 2 1) (with 3 2) ∷ handed (0 ∷ 7 ∷ 4 ∷ 2 ∷ 0 ∷ []) ∷ handed [] ∷ [])
    (world (with 3 2) (3 ∷ []) (0 ∷ 0 ∷ 0 ∷ 1 ∷ 1 ∷ 0 ∷ 1 ∷ 0 ∷ 0 ∷ 1 ∷ 2 ∷ 1 ∷ 1 ∷ 1 ∷ 0 ∷ 0 ∷ 0 ∷ 2 ∷ replicate 5 0) (1 ∷ 0 ∷ 1 ∷ 1 ∷ 0 ∷ 0 ∷ 7 ∷ 4 ∷ 2 ∷ 0 ∷ replicate 5 0))
    -- a transition record too few
    ∷ calling both (before (0 ∷ []) (replicate 24 0) (replicate 14 0))
    (opens ∷ run ∷ [])
    (answered accepted (with 1 0) ∷ answered (refusal 13) (with 3 2) ∷ [])
    (world (with 3 2) (3 ∷ []) (0 ∷ 0 ∷ 0 ∷ 1 ∷ 1 ∷ 0 ∷ 1 ∷ 0 ∷ 0 ∷ 1 ∷ 2 ∷ 1 ∷ 1 ∷ 1 ∷ 0 ∷ 0 ∷ 0 ∷ 2 ∷ replicate 6 0) (1 ∷ 0 ∷ 1 ∷ 1 ∷ 0 ∷ 0 ∷ 7 ∷ 4 ∷ 2 ∷ 0 ∷ replicate 4 0))
    -- at opening no head, or no state record, is lacking where a machine has no start; the heads are cleared all the same
    ∷ (let none1 = lend (set example1 2 0) example2 in
    calling none1 (before (9 ∷ 9 ∷ []) [] [])
    (opening (settings_of (plain 0 0)) none1 ∷ run ∷ expand 0 ∷ records 0 ∷ [])
    (answered accepted (with 0 0) ∷ answered accepted (with 0 0) ∷ answered (refusal 9) (with 0 0) ∷ handed [] ∷ [])
    (world (with 0 0) (0 ∷ 0 ∷ []) [] []))
    ∷ (let none2 = lend example1 (set example2 2 0) in
    calling none2 (before [] [] [])
    (opening (settings_of (plain 0 0)) none2 ∷ run ∷ [])
    (answered accepted (with 0 0) ∷ answered accepted (with 0 0) ∷ [])
    (world (with 0 0) [] [] []))
    -- Two moves to one new state: it is found once, counted once, and takes one record. Expanded first, state 1 has an empty list; a list of three goes by next.
    ∷ (let new = session (plain 0 0) 1 in
    let l = lend twice (loops 0) in
    calling l (before (0 ∷ []) (replicate 12 0) (replicate 15 0))
    (opening (settings_of (plain 0 0)) l ∷ expand 1 ∷ expand 0 ∷ expand 1 ∷ expand 0 ∷ records 0 ∷ run ∷ [])
    (answered accepted (new 1 0)
    ∷ answered (refusal 9) (new 1 0)
    ∷ answered (list_part 1 3) (new 2 3)
    ∷ answered (list_part 0 0) (new 2 3)
    ∷ answered (list_part 1 3) (new 2 3)
    ∷ handed (1 ∷ 4 ∷ 0 ∷ 1 ∷ 2 ∷ 1 ∷ 4 ∷ 0 ∷ 1 ∷ 3 ∷ 2 ∷ 6 ∷ 5 ∷ 0 ∷ 0 ∷ [])
    ∷ answered accepted (new 2 3)
    ∷ [])
    (world (new 2 3) (2 ∷ []) (0 ∷ 0 ∷ 0 ∷ 1 ∷ 1 ∷ 0 ∷ 1 ∷ 0 ∷ 0 ∷ 1 ∷ 0 ∷ 1 ∷ []) (1 ∷ 4 ∷ 0 ∷ 1 ∷ 2 ∷ 1 ∷ 4 ∷ 0 ∷ 1 ∷ 3 ∷ 2 ∷ 6 ∷ 5 ∷ 0 ∷ 0 ∷ [])))
    -- 12 and 13 at one move: 12. The third move of state 0 is too large, and its record is lacking too.
    ∷ (let new = session (plain 0 0) 1 in
    let l = lend twice (loops 4294967290) in
    calling l (before (0 ∷ []) (replicate 12 0) (replicate 10 0))
    (opening (settings_of (plain 0 0)) l ∷ expand 0 ∷ [])
    (answered accepted (new 1 0) ∷ answered (refusal 12) (new 1 0) ∷ [])
    (world (new 1 0) (1 ∷ []) (replicate 12 0) (replicate 10 0)))
    -- 13 at a move before one that is too large: 13
    ∷ (let new = session (plain 0 0) 1 in
    let l = lend twice (loops 4294967290) in
    calling l (before (0 ∷ []) (replicate 6 0) (replicate 15 0))
    (opening (settings_of (plain 0 0)) l ∷ expand 0 ∷ [])
    (answered accepted (new 1 0) ∷ answered (refusal 13) (new 1 0) ∷ [])
    (world (new 1 0) (1 ∷ []) (replicate 6 0) (replicate 15 0)))
    -- 11 at a walked label after a move that lacks a record: 13; with the record: 11, and nothing is stored
    ∷ (let new = session (sigma1 8) 1 in
    let l = lend twice (loops 0) in
    calling l (before (0 ∷ []) (replicate 6 0) (replicate 15 0))
    (opening (settings_of (sigma1 8)) l ∷ expand 0 ∷ [])
    (answered accepted (new 1 0) ∷ answered (refusal 13) (new 1 0) ∷ [])
    (world (new 1 0) (1 ∷ []) (replicate 6 0) (replicate 15 0)))
    ∷ (let new = session (sigma1 8) 1 in
    let l = lend twice (loops 0) in
    calling l (before (0 ∷ []) (replicate 12 0) (replicate 15 0))
    (opening (settings_of (sigma1 8)) l ∷ expand 0 ∷ run ∷ [])
    (answered accepted (new 1 0) ∷ answered (refusal 11) (new 1 0) ∷ answered (refusal 11) (new 1 0) ∷ [])
    (world (new 1 0) (1 ∷ []) (replicate 12 0) (replicate 15 0)))
    -- 10 before 11, and before 13: marks 1, each state has a transition with its sigma label, and no transition record is there
    ∷ (let w : List ℕ = 0 ∷ 0 ∷ 4 ∷ 0 ∷ 4 ∷ 0 ∷ [] in
    let l = lend marked1 marked2 in
    calling l (before (0 ∷ []) (replicate 6 0) [])
    (opening (settings_of w) l ∷ expand 0 ∷ run ∷ final_weight 0 ∷ [])
    (answered accepted (session w 2 1 0) ∷ answered (refusal 10) (session w 2 1 0) ∷ answered (refusal 10) (session w 2 1 0) ∷ answered (weight None) (session w 2 1 0) ∷ [])
    (world (session w 2 1 0) (1 ∷ []) (replicate 6 0) []))
    -- side input, by the mark of machine 2 alone: machine 1, whose labels fall, is walked
    ∷ printing (plain 0 0) (1 ∷ 2 ∷ 1 ∷ 0 ∷ 0 ∷ 0 ∷ 1 ∷ 0 ∷ 0 ∷ 3 ∷ 3 ∷ 0 ∷ 0 ∷ 2 ∷ 2 ∷ 2 ∷ 0 ∷ 0 ∷ 0 ∷ []) (1 ∷ 2 ∷ 1 ∷ 1 ∷ 0 ∷ 0 ∷ 1 ∷ 1 ∷ 6 ∷ 2 ∷ 7 ∷ 1 ∷ 0 ∷ 2 ∷ 3 ∷ 8 ∷ 2 ∷ 0 ∷ 0 ∷ [])
    (side_line 0 ∷ state_line 0 (triple 0 0 0) None ∷ tr_line 3 8 2 0 ∷ tr_line 2 7 1 0 ∷ end_line 1 2 ∷ [])
    -- an opening refused changes nothing and hands back the session that it got, also in the middle of a list
    ∷ calling both (before (0 ∷ []) (replicate 12 0) (replicate 5 0))
    (opens ∷ expand 0 ∷ opening (settings_of (plain 2 0)) both ∷ opening (settings_of (plain 0 0)) (lend [] []) ∷ expand 0 ∷ [])
    (answered accepted (with 1 0) ∷ answered (list_part 1 1) (with 2 1) ∷ answered (refusal 1) (with 2 1) ∷ answered (refusal 2) (with 2 1) ∷ answered (list_part 1 1) (with 2 1) ∷ [])
    (world (with 2 1) (2 ∷ []) (0 ∷ 0 ∷ 0 ∷ 1 ∷ 1 ∷ 0 ∷ 1 ∷ 0 ∷ 0 ∷ 0 ∷ 0 ∷ 1 ∷ []) (1 ∷ 0 ∷ 1 ∷ 1 ∷ 0 ∷ []))
    ∷ []

call_cases_lem : AllHold call_cases
unfolding AllHold Holds call_cases
call_cases_lem = ((refl, refl), ((refl, refl), ((refl, refl), ((refl, refl), ((refl, refl), ((refl, refl), ((refl, refl), ((refl, refl), ((refl, refl), ((refl, refl), ((refl, refl), (refl, ((refl, refl), tt)))))))))))))

-- each case of the table holds
pub call_case : (c : Case) → In c call_cases → Holds c
call_case c i = each_holds call_cases call_cases_lem c i
