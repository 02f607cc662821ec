-- A closed instance of demand 2 with sigma set: machine 1 has 5:6 and 5:8, machine 2 has 8:4 and sigma 9:9, rewritten on both sides. The label 6 meets sigma, whose output becomes 6;
-- 8 meets its own transition, and after it sigma, whose output becomes 8. Each clause of the claim is used once.
use mathlib.Core.Path.{◌≡◌, refl, sym, ◌∙◌, ap, subst}
use mathlib.Core.List.Memᴰ.{head as here}
use mathlib.Core.List.{List, [], ◌∷◌}
use mathlib.Core.Logic.{◌⊎◌}
use Rattle.std.specs.Prelude.{None, Some}
use Prim.Native.Nat.{ℕ, zero, suc, ◌<◌, ◌≤◌}
use native.Mathlib.Omega.{arith}
use lib.ListN.{length, replicate}
use Rattle.papers.specs.Weight.{finite, tropical, cost}
use Rattle.papers.specs.Filter.{epsilon_sequencing}
use Rattle.papers.specs.Composition.{along, Edges, Start, KeptMove}
use Rattle.papers.specs.Paths.{EndsBoth, AcceptingMoves, AcceptingRun, moves_weight}
use Rattle.words.specs.Labels.{MAX, good}
use Rattle.words.specs.Matches.{MatchType, inputs}
use Rattle.words.specs.Sides.{only}
use Rattle.words.specs.Steps.{Composition}
use Rattle.words.specs.Settings.{Settings, Lent, composition_of}
use Rattle.words.specs.AsPapers.{exact, composed_of, direction_of, WalkedSigma, end_weight}
use Rattle.words.specs.Links.{NoEnd}
use Rattle.words.proofs.CheckedLaws.{good_is}
use Rattle.calls.specs.Store.{Memory, Part, tr_field}
use Rattle.calls.specs.Checks.{Session, side_for}
use Rattle.calls.specs.Calls.{open_of, expand_of}
use Rattle.calls.specs.Sequences.{World, Call, run, after}
use Rattle.calls.specs.Listing.{settings_of}
use Rattle.calls.proofs.Cases.{Holds}
use Rattle.calls.proofs.StarCases.{plain, lend, triple, session, world}
use Rattle.readings.specs.Merge.{move}
use Rattle.readings.specs.Listed.{goods, listed_at}
use Rattle.readings.specs.Places.{place_among}
use Rattle.readings.specs.Readings.{at, filtered_by}
use Rattle.readings.specs.Worlds.{world_of, OpeningsRefused, state_at, target_of}
use Rattle.readings.specs.StorePaths.{AcceptingRecords, moves_in, moves_of_records, records_of_moves, AllRead}
use Rattle.readings.specs.Follows.{IsTransition, PapersList}
use Rattle.readings.specs.Demands.{Demand2}
use Rattle.readings.proofs.Refused.{says_eleven}
use Rattle.readings.proofs.Demand2.{demand_2}

abbrev lent : Lent
lent = lend (2 ∷ 2 ∷ 1 ∷ 0 ∷ 0 ∷ 0 ∷ 1 ∷ 0 ∷ 0 ∷ 0 ∷ 1 ∷ 0 ∷ 5 ∷ 6 ∷ 2 ∷ 1 ∷ 2 ∷ 5 ∷ 8 ∷ 3 ∷ 1 ∷ 0 ∷ []) (2 ∷ 2 ∷ 1 ∷ 1 ∷ 0 ∷ 0 ∷ 1 ∷ 0 ∷ 0 ∷ 0 ∷ 1 ∷ 1 ∷ 8 ∷ 4 ∷ 1 ∷ 1 ∷ 2 ∷ 9 ∷ 9 ∷ 3 ∷ 1 ∷ 0 ∷ [])

-- cost, sequence; sigma 9 on machine 2, mode 1
abbrev asked : List ℕ
asked = 0 ∷ 0 ∷ MAX ∷ 0 ∷ 9 ∷ 1 ∷ []

abbrev set : Settings
set = settings_of asked

abbrev got : Session
got = session (plain 1 2) 7 8 9

abbrev memory : Memory
memory = record { heads = 9 ∷ 9 ∷ []; states = replicate 13 8; trs = replicate 17 8 }

abbrev opened : World
opened = world (session asked 0 1 0) (1 ∷ 0 ∷ []) (0 ∷ 0 ∷ 0 ∷ 0 ∷ 0 ∷ 0 ∷ 8 ∷ 8 ∷ 8 ∷ 8 ∷ 8 ∷ 8 ∷ 8 ∷ []) (replicate 17 8)

abbrev left : World
left =
    world (session asked 0 2 3) (2 ∷ 0 ∷ [])
    (0 ∷ 0 ∷ 0 ∷ 1 ∷ 1 ∷ 0 ∷ 1 ∷ 1 ∷ 0 ∷ 1 ∷ 0 ∷ 1 ∷ 8 ∷ [])
    (5 ∷ 6 ∷ 5 ∷ 1 ∷ 2 ∷ 5 ∷ 4 ∷ 4 ∷ 1 ∷ 3 ∷ 5 ∷ 8 ∷ 6 ∷ 1 ∷ 0 ∷ 8 ∷ 8 ∷ [])

opens : (open_of set lent got memory).answer ≡ good tt
unfolding Holds
opens = refl

leaves : world_of (open_of set lent got memory) ≡ opened
unfolding Holds
leaves = refl

runs : after lent opened (run ∷ []) ≡ left
unfolding Holds
runs = refl

rule : side_for set lent ≡ good (only inputs)
unfolding Holds
rule = refl

abbrev c : Composition
c = composition_of set lent (only inputs)

claims : (cs : List Call) → OpeningsRefused lent (world_of (open_of set lent got memory)) cs → Demand2 set lent c (after lent (world_of (open_of set lent got memory)) cs)
claims cs h =
    let r = demand_2 set lent got memory opens in
    subst (λ x. Demand2 set lent (composition_of set lent x) (after lent (world_of (open_of set lent got memory)) cs)) (good_is (sym r.1 ∙ rule)) (r.2 cs h)

pub below_two : (P : ℕ → Type 0) → P 0 → P 1 → (n : ℕ) → n < 2 → P n
below_two P a b zero h = a
below_two P a b (suc zero) h = b
below_two P a b (suc (suc n)) h = absurd (omega arith)

-- after the opening, and after a run
pub first_claim : Demand2 set lent c opened
unfolding Holds
first_claim = subst (Demand2 set lent c) leaves (claims [] tt)

pub second_claim : Demand2 set lent c left
second_claim = subst (Demand2 set lent c) (ap (λ (w : World). after lent w (run ∷ [])) leaves ∙ runs) (claims (run ∷ []) tt)

-- the start
pub starts : (state_at left 0 ≡ triple 0 0 0) × Start (composed_of c) (triple 0 0 0)
unfolding Holds
starts = (((second_claim.start (triple 0 0 0)).0 (refl, refl, refl)).1, (second_claim.start (triple 0 0 0)).1 (omega arith, refl))

-- the list that expand answers after the opening, and the one that the run left
abbrev three : Part
three = record { first = 1; count = 3 }

pub answered : PapersList c (world_of (expand_of lent opened.session opened.memory 0)) 0 three
unfolding Holds
answered = first_claim.answers 0 three refl

pub listed : PapersList c left 0 three
unfolding Holds
listed = second_claim.lists 0 (omega arith, refl)

-- the move by sigma
abbrev by_sigma : Edges
by_sigma = move (along 1) (along 2)

kept : KeptMove (composed_of c) (triple 0 0 0) by_sigma 0
unfolding Holds listed_at goods
kept = (listed.moves.exactly (by_sigma, 0)).0 (here refl)

as_many : 3 ≡ length (moves_in c left 0)
as_many = listed.count

directed : (d : MatchType) → direction_of c (triple 0 0 0) ≡ good d → d ≡ inputs
unfolding Holds
directed d e = good_is (sym e)

-- is record 1: 5:6 of weight 2 + 3, to the state (1, 1, 0), which has number 1
pub its_record : IsTransition c left inputs (triple 0 0 0) by_sigma 0 1
unfolding Holds listed_at goods
its_record = subst (λ d. IsTransition c left d (triple 0 0 0) by_sigma 0 1) (directed listed.direction listed.rule) (listed.record_of 0 by_sigma 0 refl)

pub its_words : (tr_field left.memory.trs 0 0 ≡ 5) × (tr_field left.memory.trs 0 1 ≡ 6) × (exact cost (tr_field left.memory.trs 0 2) ≡ finite 5)
unfolding Holds
its_words = (its_record.input, its_record.output, its_record.weight)

pub its_target : (state_at left (target_of left 1) ≡ triple 1 1 0) × (target_of left 1 < 2)
unfolding Holds
its_target = (its_record.target, its_record.found)

-- final weights: 1 in state 1; state 0 is not final
pub ends : EndsBoth tropical (exact cost) (composed_of c) 1 1 × (exact cost 1 ≡ end_weight c (triple 1 1 0)) × (1 ≤ MAX)
unfolding Holds
ends = ((second_claim.finals 1 (omega arith)).some_where 1).0 refl

pub no_end : NoEnd cost c.operand1.machine 0 ⊎ NoEnd cost c.operand2.machine 0
unfolding Holds
no_end = (second_claim.finals 0 (omega arith)).none_where.0 refl

-- the accepting path by sigma, in the store and in the papers' composition, with 01's filter and with the papers' own
all_read : AllRead lent left
unfolding Holds
all_read = record { expanded = below_two _ (omega arith, refl) (omega arith, refl); weighed = below_two _ (None, refl) (Some 1, refl) }

accepting : AcceptingRecords lent left (1 ∷ [])
unfolding Holds
accepting = (omega arith, ((omega arith, refl), here refl, (1, refl)))

pub its_path : AcceptingRun tropical (exact cost) (composed_of c) (by_sigma ∷ [])
unfolding Holds moves_of_records listed_at goods
its_path = (second_claim.paths all_read).paths.goes (1 ∷ []) accepting

pub back_again : AcceptingRecords lent left (1 ∷ [])
unfolding Holds records_of_moves place_among listed_at goods
back_again = (second_claim.paths all_read).paths.comes (by_sigma ∷ []) its_path

pub weighs : finite 6 ≡ moves_weight tropical (exact cost) (composed_of c) 0 0 (by_sigma ∷ [])
unfolding Holds moves_of_records listed_at goods
weighs = (second_claim.paths all_read).weights (1 ∷ []) accepting

pub by_papers_filter : AcceptingRun tropical (exact cost) (filtered_by epsilon_sequencing (composed_of c)) (by_sigma ∷ [])
by_papers_filter = (second_claim.filters.0 (by_sigma ∷ [])).0 its_path

pub from_any : (q1 q2 : ℕ) → AcceptingMoves tropical (exact cost) (filtered_by epsilon_sequencing (composed_of c)) (at q1 q2) (by_sigma ∷ [])
    → AcceptingMoves tropical (exact cost) (composed_of c) (at q1 q2) (by_sigma ∷ [])
from_any q1 q2 h = (second_claim.filters.1 q1 q2 (by_sigma ∷ [])).1 h

-- machine 1 with the output 9 in the place of 8: a walked label is sigma, and the expansion is refused by 11
abbrev walking : Lent
walking = lend (2 ∷ 2 ∷ 1 ∷ 0 ∷ 0 ∷ 0 ∷ 1 ∷ 0 ∷ 0 ∷ 0 ∷ 1 ∷ 0 ∷ 5 ∷ 6 ∷ 2 ∷ 1 ∷ 2 ∷ 5 ∷ 9 ∷ 3 ∷ 1 ∷ 0 ∷ []) lent.m2

opens_walking : (open_of set walking got memory).answer ≡ good tt
unfolding Holds
opens_walking = refl

rule_walking : side_for set walking ≡ good (only inputs)
unfolding Holds
rule_walking = refl

pub third_claim : Demand2 set walking (composition_of set walking (only inputs)) opened
unfolding Holds
third_claim =
    let r = demand_2 set walking got memory opens_walking in
    subst (λ x. Demand2 set walking (composition_of set walking x) opened) (good_is (sym r.1 ∙ rule_walking)) (r.2 [] tt)

pub walked : (d : MatchType) × (direction_of (composition_of set walking (only inputs)) (triple 0 0 0) ≡ good d)
    × WalkedSigma d (composition_of set walking (only inputs)).operand1 (composition_of set walking (only inputs)).operand2 0 0
unfolding Holds
walked = says_eleven (composition_of set walking (only inputs)) opened 0 (third_claim.refusals 0 11 (omega arith) (λ e. omega (arith, e)) refl)
