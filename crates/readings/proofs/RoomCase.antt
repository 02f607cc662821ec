-- Closed instances of what a world answers, by the claim: in 01's listing the last records of a memory are used, and with one state record less the same expansion
-- is refused by 13; a weight too large is refused by 12.
use mathlib.Core.Path.{◌≡◌, refl, sym, ◌∙◌, ap, subst}
use mathlib.Core.List.{List, [], ◌∷◌, ◌++◌, map}
use mathlib.Core.Logic.{inr}
use Prim.Native.Nat.{ℕ}
use native.Mathlib.Omega.{arith}
use lib.ListN.{length, replicate}
use Rattle.words.specs.Labels.{good, refused}
use Rattle.words.specs.Matches.{outputs}
use Rattle.words.specs.Sides.{Side, only}
use Rattle.words.specs.Steps.{Step, steps_at}
use Rattle.words.specs.Settings.{Lent, composition_of}
use Rattle.words.proofs.CheckedLaws.{good_is}
use Rattle.calls.specs.Store.{Memory, state_room, tr_room}
use Rattle.calls.specs.Checks.{side_for}
use Rattle.calls.specs.Calls.{open_of}
use Rattle.calls.specs.Sequences.{World, Call, expand, run, after}
use Rattle.calls.proofs.Cases.{Holds}
use Rattle.calls.proofs.StarCases.{plain, lend, session, triple, world, weighing}
use Rattle.readings.specs.Worlds.{world_of, expand_in, final_in, handed_in, Accepted, Expanded, state_at}
use Rattle.readings.specs.Answers.{ExpandedBy, among, newOnes, new_states, RoomFor, Answers}
use Rattle.readings.proofs.Demands.{demand_3}
use Rattle.readings.proofs.DemandCase.{both, set, got, large, small, from, with, c, rule, opens_large, opens_small}

-- targets that are known, or were targets before, are not counted
pub new_ones : newOnes (triple 0 0 0 ∷ triple 1 0 0 ∷ []) (triple 2 2 0 ∷ triple 1 0 0 ∷ triple 2 2 0 ∷ triple 2 2 1 ∷ []) ≡ triple 2 2 0 ∷ triple 2 2 1 ∷ []
unfolding Holds newOnes among
new_ones = refl

-- states 0 and 1 are expanded, state 2 is found
abbrev pub before : List Call
before = expand 0 ∷ expand 1 ∷ []

abbrev pub left_large : World
left_large =
    world (with 3 2) (1 ∷ 2 ∷ 3 ∷ []) (0 ∷ 0 ∷ 0 ∷ 1 ∷ 1 ∷ 0 ∷ 1 ∷ 0 ∷ 0 ∷ 1 ∷ 2 ∷ 0 ∷ 1 ∷ 1 ∷ 0 ∷ 0 ∷ 0 ∷ 0 ∷ replicate 10 8) (1 ∷ 0 ∷ 1 ∷ 1 ∷ 0 ∷ 0 ∷ 7 ∷ 4 ∷ 2 ∷ 0 ∷ replicate 7 6)

abbrev pub left_small : World
left_small =
    world (with 3 2) (3 ∷ 2 ∷ []) (0 ∷ 0 ∷ 0 ∷ 1 ∷ 1 ∷ 0 ∷ 1 ∷ 0 ∷ 0 ∷ 1 ∷ 2 ∷ 0 ∷ 1 ∷ 1 ∷ 0 ∷ 0 ∷ 0 ∷ 1 ∷ replicate 5 5) (1 ∷ 0 ∷ 1 ∷ 1 ∷ 0 ∷ 0 ∷ 7 ∷ 4 ∷ 2 ∷ 0 ∷ replicate 5 4)

left_large_lem : after both (from large) before ≡ left_large
unfolding Holds
left_large_lem = refl

pub left_small_lem : after both (from small) before ≡ left_small
unfolding Holds
left_small_lem = refl

-- its one kept move, to the state (2, 2, 0), which is not found yet
abbrev last : Step
last = record { input = 2; output = 8; weight = 3; to = triple 2 2 0 }

-- the claim at this point of the list
answered_in : (m : Memory) → (open_of set both got m).answer ≡ good tt → Answers both c (after both (from m) before)
answered_in m e =
    let r = demand_3 set both got m e in
    subst (λ (x : Side). Answers both (composition_of set both x) (after both (from m) before)) (good_is (sym r.1 ∙ rule)) ((r.2 before tt).answers before [] refl)

answers_large : Answers both c left_large
answers_large = subst (Answers both c) left_large_lem (answered_in large opens_large)

answers_small : Answers both c left_small
answers_small = subst (Answers both c) left_small_lem (answered_in small opens_small)

new_large : new_states left_large (last ∷ []) ≡ triple 2 2 0 ∷ []
unfolding Holds newOnes among
new_large = refl

new_small : new_states left_small (last ∷ []) ≡ triple 2 2 0 ∷ []
unfolding Holds newOnes among
new_small = refl

rooms : (tr_room left_large.memory ≡ 3) × (state_room left_large.memory ≡ 4) × (tr_room left_small.memory ≡ 3) × (state_room left_small.memory ≡ 3)
unfolding Holds
rooms = (refl, refl, refl, refl)

not_yet_large : Expanded left_large 2 → ⊥
unfolding Holds
not_yet_large x = let e : ◌≡◌ {A = ℕ} 0 1 = x.1 in omega (arith, e)

not_yet_small : Expanded left_small 2 → ⊥
unfolding Holds
not_yet_small x = let e : ◌≡◌ {A = ℕ} 0 1 = x.1 in omega (arith, e)

moves_large : steps_at c (state_at left_large 2) ≡ map good (last ∷ [])
unfolding Holds
moves_large = refl

moves_small : steps_at c (state_at left_small 2) ≡ map good (last ∷ []) ++ []
unfolding Holds
moves_small = refl

-- the third of three transition records and the fourth of four state records: accepted
pub last_records : Accepted (expand_in both left_large 2)
last_records =
    let n = ap length new_large in
    (answers_large.expands 2 (omega arith) not_yet_large).accepts.1 (last ∷ [], moves_large, record { trs = omega (arith, rooms.0); states = omega (arith, rooms.1, n) })

-- three state records: 13
pub one_lacks : (expand_in both left_small 2).answer ≡ refused 13
one_lacks =
    let n = ap length new_small in
    (answers_small.expands 2 (omega arith) not_yet_small).full.1 (last ∷ [], [], moves_small, inr (omega (arith, rooms.3, n)))

-- state 3 is not found there, and of state 2, which is not expanded, nothing is handed back
pub nine_there : ((expand_in both left_small 3).answer ≡ refused 9) × ((final_in both left_small 3).answer ≡ refused 9)
nine_there = ((answers_small.expand-nine 3).1 (λ i. omega (arith, i)), (answers_small.final-nine 3).1 (λ i. omega (arith, i)))

pub none_handed : handed_in both left_small 2 ≡ []
none_handed = answers_small.hands_none 2 not_yet_small

-- a run in the smaller memory stops at state 2, and does not expand it
pub stopped_there : ExpandedBy both (from small) (expand 0 ∷ run ∷ []) 2 → ⊥
unfolding Holds
stopped_there x =
    let r = demand_3 set both got small opens_small in
    not_yet_small (((r.2 (expand 0 ∷ run ∷ []) tt).expanded (expand 0 ∷ run ∷ []) [] refl 2).1 x)

-- ★ case 6: the one kept move of its state is refused by 12, with room for it
abbrev heavy : Lent
heavy = lend (weighing 2147483648) (weighing 2147483647)

abbrev little : Memory
little = record { heads = 7 ∷ []; states = replicate 6 7; trs = replicate 5 7 }

abbrev left_heavy : World
left_heavy = world (session (plain 0 0) 1 1 0) (1 ∷ []) (replicate 6 0) (replicate 5 7)

rule_heavy : side_for set heavy ≡ good (only outputs)
unfolding Holds
rule_heavy = refl

opens_heavy : (open_of set heavy got little).answer ≡ good tt
unfolding Holds
opens_heavy = refl

left_heavy_lem : after heavy (world_of (open_of set heavy got little)) [] ≡ left_heavy
unfolding Holds
left_heavy_lem = refl

answers_heavy : Answers heavy (composition_of set heavy (only outputs)) left_heavy
answers_heavy =
    let r = demand_3 set heavy got little opens_heavy in
    subst (λ (x : Side). Answers heavy (composition_of set heavy x) left_heavy) (good_is (sym r.1 ∙ rule_heavy))
    (subst (λ (v : World). Answers heavy (composition_of set heavy r.0) v) left_heavy_lem ((r.2 [] tt).answers [] [] refl))

not_yet_heavy : Expanded left_heavy 0 → ⊥
unfolding Holds
not_yet_heavy x = let e : ◌≡◌ {A = ℕ} 0 1 = x.1 in omega (arith, e)

moves_heavy : steps_at (composition_of set heavy (only outputs)) (state_at left_heavy 0) ≡ map good [] ++ (refused 12 ∷ [])
unfolding Holds
moves_heavy = refl

room_heavy : RoomFor left_heavy []
unfolding Holds newOnes
room_heavy = record { trs = omega arith; states = omega arith }

pub too_large : (expand_in heavy left_heavy 0).answer ≡ refused 12
too_large = ((answers_heavy.expands 0 (omega arith) not_yet_heavy).stops 12 (λ e. omega (arith, e))).1 ([], [], moves_heavy, room_heavy)
