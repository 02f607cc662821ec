-- A closed instance of both claims: a run finds a state that leads nowhere, and trimming leaves it out.
use mathlib.Core.Path.{◌≡◌, refl, sym, ◌∙◌, ap, subst}
use mathlib.Core.Bool.{true}
use mathlib.Core.List.{List, [], ◌∷◌, ◌++◌}
use Prim.Native.Nat.{ℕ}
use lib.ListN.{replicate}
use Rattle.papers.specs.Weight.{finite}
use Rattle.words.specs.Labels.{good}
use Rattle.words.specs.Machines.{well_formed}
use Rattle.words.specs.Matches.{outputs}
use Rattle.words.specs.Sides.{Side, only}
use Rattle.words.specs.Steps.{Composition}
use Rattle.words.specs.Settings.{Settings, Lent, composition_of}
use Rattle.words.proofs.CheckedLaws.{good_is}
use Rattle.calls.specs.Store.{Memory}
use Rattle.calls.specs.Checks.{Session, side_for}
use Rattle.calls.specs.Calls.{open_of}
use Rattle.calls.specs.Sequences.{World, run, after}
use Rattle.calls.specs.Listing.{settings_of}
use Rattle.calls.proofs.Cases.{Holds}
use Rattle.calls.proofs.StarCases.{plain, lend, session, world}
use Rattle.graphs.specs.Walks.{exists, leads_within, useful}
use Rattle.machine_words.specs.MachineWords.{machine_words, states_words, trs_words, list_words, trs_in, before}
use Rattle.trims.specs.Trims.{number, trimmed, all_expanded, all_weighed, lacks_room, trimmed_of, Trim, trim_of}
use Rattle.readings.specs.Worlds.{world_of}
use Rattle.readings.specs.Merge.{merge_up_to}
use Rattle.readings.specs.Listed.{goods, listed_at, pick_of}
use Rattle.readings.specs.Places.{place_among}
use Rattle.readings.specs.StorePaths.{Finished, weight_from, records_of_moves}
use Rattle.readings.proofs.StoreWalks.{finished_test, test_finished}
use Rattle.trim_readings.specs.TrimPaths.{place_in, to_new, to_old, new_path, old_path}
use Rattle.trim_readings.specs.TrimClaims.{new_machine, held_in, trim_in, new_of_pair, PairsTrimmed, TrimAfterCalls}
use Rattle.trim_readings.proofs.TrimClaim.{trim_claim}

-- 0 leads by 1:7 to 1, which leads nowhere, and by 1:8 to 2, which is final
abbrev forks : List ℕ
forks = 3 ∷ 2 ∷ 1 ∷ 0 ∷ 0 ∷ 0 ∷ 1 ∷ 0 ∷ 0 ∷ 0 ∷ 0 ∷ 0 ∷ 0 ∷ 1 ∷ 5 ∷ 1 ∷ 7 ∷ 3 ∷ 1 ∷ 2 ∷ 1 ∷ 8 ∷ 4 ∷ 2 ∷ 0 ∷ []

-- 0 leads by 7:7 and by 8:9 to 1, which is final
abbrev joins : List ℕ
joins = 2 ∷ 2 ∷ 1 ∷ 0 ∷ 0 ∷ 0 ∷ 1 ∷ 0 ∷ 0 ∷ 0 ∷ 1 ∷ 6 ∷ 7 ∷ 7 ∷ 10 ∷ 1 ∷ 2 ∷ 8 ∷ 9 ∷ 20 ∷ 1 ∷ 0 ∷ []

abbrev both : Lent
both = lend forks joins

abbrev set : Settings
set = settings_of (plain 0 0)

abbrev got : Session
got = session (1 ∷ 2 ∷ 3 ∷ 4 ∷ 5 ∷ 6 ∷ []) 7 8 9

abbrev large : Memory
large = record { heads = 9 ∷ []; states = replicate 20 8; trs = replicate 11 6 }

abbrev start : World
start = world_of (open_of set both got large)

abbrev c : Composition
c = composition_of set both (only outputs)

-- states (0, 0, 0), (1, 1, 0), (2, 1, 0) and the records of state 0
abbrev left : World
left =
    world (session (plain 0 0) 1 3 2) (3 ∷ []) (0 ∷ 0 ∷ 0 ∷ 1 ∷ 1 ∷ 0 ∷ 1 ∷ 1 ∷ 0 ∷ 1 ∷ 0 ∷ 1 ∷ 2 ∷ 1 ∷ 0 ∷ 1 ∷ 0 ∷ 2 ∷ 8 ∷ 8 ∷ [])
    (1 ∷ 7 ∷ 13 ∷ 1 ∷ 2 ∷ 1 ∷ 9 ∷ 24 ∷ 2 ∷ 0 ∷ 6 ∷ [])

rule : side_for set both ≡ good (only outputs)
unfolding Holds
rule = refl

opens : (open_of set both got large).answer ≡ good tt
unfolding Holds
opens = refl

left_there : after both start (run ∷ []) ≡ left
unfolding Holds
left_there = refl

-- the second claim holds there
claimed : TrimAfterCalls set both c left
claimed =
    let r = trim_claim set both got large opens in
    subst (TrimAfterCalls set both c) left_there
    (subst (λ (x : Side). TrimAfterCalls set both (composition_of set both x) (after both start (run ∷ []))) (good_is (sym r.1 ∙ rule)) (r.2 (run ∷ []) tt))

-- state 1 and its record are left out
abbrev words : List ℕ
words = 2 ∷ 1 ∷ 1 ∷ 0 ∷ 0 ∷ 0 ∷ 1 ∷ 0 ∷ 0 ∷ 0 ∷ 1 ∷ 11 ∷ 1 ∷ 9 ∷ 24 ∷ 1 ∷ 0 ∷ []

trimmed_there : trimmed (held_in c left) ≡ words
unfolding Holds trimmed machine_words states_words trs_words list_words trs_in number useful leads_within exists
trimmed_there = refl

-- the call writes them, and clears the work slice
answers_there : trim_in both left (replicate 18 3) (replicate 7 4) ≡ record { answer = good 17; out = words ++ (3 ∷ []); work = replicate 6 0 ++ (4 ∷ []) }
unfolding Holds trim_of trimmed_of all_expanded all_weighed lacks_room trimmed machine_words states_words trs_words list_words trs_in number useful leads_within exists
answers_there = refl

-- and the claim says that they are well formed
formed_there : well_formed words ≡ true
formed_there = ap well_formed (sym trimmed_there) ∙ (claimed.writes (replicate 18 3) (replicate 7 4) 17 (ap (λ (t : Trim). t.answer) answers_there)).1

-- its one path is the old record 2, which pairs record 2 of machine 1 with record 2 of machine 2
finished_there : Finished set both c left
unfolding Holds finished_test
finished_there = test_finished set both (only outputs) left refl

path_there : new_path (held_in c left) (2 ∷ []) ≡ 1 ∷ []
unfolding Holds to_new place_in before number useful leads_within exists
path_there = refl

back_there : old_path (held_in c left) (1 ∷ []) ≡ 2 ∷ []
unfolding Holds to_old before number useful leads_within exists
back_there = refl

pair_there : new_of_pair c (pick_of 0) left (2 ∷ [], 2 ∷ []) ≡ 1 ∷ []
unfolding Holds to_new place_in before number useful leads_within exists records_of_moves place_among merge_up_to listed_at goods
pair_there = refl

pairs_there : PairsTrimmed c (pick_of 0) left
pairs_there = claimed.pairs finished_there

weight_there : weight_from c (new_machine (held_in c left)) 0 (1 ∷ []) ≡ finite 35
unfolding Holds trimmed machine_words states_words trs_words list_words trs_in number useful leads_within exists
weight_there = refl
