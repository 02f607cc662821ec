-- 01, "The listing", case 1 (★) through the words: what each exported call leaves.
use mathlib.Core.Path.{◌≡◌, refl}
use mathlib.Core.List.{List, [], ◌∷◌, flat_map}
use Prim.Native.Nat.{ℕ}
use lib.ListN.{replicate}
use Rattle.words.specs.Labels.{MAX}
use Rattle.calls.specs.Store.{Memory as Slices, add_with, chain_with, expanded_with, field_of, find_with, first_with, mark_with, next_with, part_with, room_with, state_room_with, tr_room_with}
use Rattle.calls.specs.Sequences.{Call, opening, expand, final_weight, records, run}
use Rattle.calls.specs.Listing.{settings_of}
use Rattle.calls.proofs.StarCases.{plain, lend, example1, example2}
use Rattle.lists.specs.Lists.{keep_if, every, interval, put, first, linked}
use Rattle.words.specs.Weights.{times, is_zero}
use Rattle.words.specs.Matches.{labelled, sorted_matches}
use Rattle.words.specs.Machines.{state_count, tr_count, start_word, side_mark, acceptor_mark, state_word, tr_word, first_ok, next_ok, first_of, next_of, list_by, list_from, list_of, no_fall, sorted, state_ok, tr_ok, acceptor, marks_ok, size_up_to, well_formed_up_to}
use Rattle.words.specs.Ignored.{heard, ignored_ok}
use Rattle.words.specs.Sides.{side_of, direction_at}
use Rattle.words.specs.Filters.{none_at, all_at}
use Rattle.words.specs.Sigmas.{has, sigma_trs, sigma_matches, lookup, given}
use Rattle.words.specs.Steps.{walk, kept_along, kept_at, step_of, steps_at, start_at, final_at}
use Rattle.words.specs.Settings.{settings_ok}
use Rattle.calls.specs.Store.{triple_at, target_at, tr_next_at, slot, head_of, same_triple, append}
use Rattle.calls.specs.Forms.{heads_ok, tr_form_ok, expanded_ok_with, fits_with, form_ok_with, state_form_ok_with, triple_ok_with}
use Rattle.calls.specs.Checks.{entered_at_with, entered_with, session_ok_with, side_for_with}
use Rattle.calls.specs.Calls.{cleared, begun_with, expand_with, expansion_with, final_weight_with, open_with, reach_with, records_with, run_from_with, run_with, store_step_with, store_steps_with}
use Rattle.rinkolza.specs.Exported.{Left, leaves, open_words, expand_words, final_weight_words, run_words, records_words}
use Rattle.rinkolza.specs.Caller.{CallMade, lefts}

abbrev memory : List ℕ → List ℕ → List ℕ → Slices
memory heads states trs = record { heads = heads; states = states; trs = trs }

-- a call whose answer's slice holds 7 and 7
abbrev made : Call → CallMade
made c = record { call = c; first = 7; second = 7 }

-- words of no meaning before the opening: two heads, room for four states and three transitions
abbrev before : Slices
before = memory (replicate 2 7) (replicate 24 7) (replicate 15 7)

-- the opening's session and memory: side output, one state
abbrev session1 : List ℕ
session1 = 0 ∷ 0 ∷ MAX ∷ 0 ∷ MAX ∷ 0 ∷ 1 ∷ 1 ∷ 0 ∷ []

abbrev memory1 : Slices
memory1 = memory (1 ∷ 0 ∷ []) (0 ∷ 0 ∷ 0 ∷ 0 ∷ 0 ∷ 0 ∷ replicate 18 7) (replicate 15 7)

-- the run's: four states, three transitions
abbrev session2 : List ℕ
session2 = 0 ∷ 0 ∷ MAX ∷ 0 ∷ MAX ∷ 0 ∷ 1 ∷ 4 ∷ 3 ∷ []

abbrev memory2 : Slices
memory2 =
    memory (4 ∷ 2 ∷ [])
    (0 ∷ 0 ∷ 0 ∷ 1 ∷ 1 ∷ 0 ∷ 1 ∷ 0 ∷ 0 ∷ 1 ∷ 2 ∷ 0 ∷ 1 ∷ 1 ∷ 0 ∷ 1 ∷ 3 ∷ 1 ∷ 2 ∷ 2 ∷ 0 ∷ 1 ∷ 0 ∷ 3 ∷ [])
    (1 ∷ 0 ∷ 1 ∷ 1 ∷ 0 ∷ 0 ∷ 7 ∷ 4 ∷ 2 ∷ 0 ∷ 2 ∷ 8 ∷ 3 ∷ 3 ∷ 0 ∷ [])

-- a later call that changes nothing but its answer
abbrev says : ℕ → ℕ → ℕ → Left
says number a b = leaves number session2 (a ∷ b ∷ []) memory2

abbrev calls : List CallMade
calls =
    made (opening (settings_of (plain 0 0)) (lend example1 example2)) ∷ made run
    ∷ made (final_weight 2) ∷ made (final_weight 3) ∷ made (final_weight 4)
    ∷ made (records 0) ∷ made (records 1) ∷ made (records 2) ∷ made (records 3) ∷ made (records 4)
    ∷ made (expand 2) ∷ made (expand 4) ∷ []

pub star_1 : lefts (lend example1 example2) (replicate 9 7) before calls
    ≡ leaves 0 session1 [] memory1 ∷ leaves 0 session2 [] memory2
    ∷ says 0 0 0 ∷ says 0 1 3 ∷ says 9 7 7
    ∷ says 0 1 1 ∷ says 0 2 1 ∷ says 0 3 1 ∷ says 0 0 0 ∷ says 0 0 0
    ∷ says 0 3 1 ∷ says 9 7 7 ∷ []
unfolding open_words expand_words final_weight_words run_words records_words lefts records_with run_with run_from_with final_weight_with expand_with expansion_with store_steps_with store_step_with reach_with open_with begun_with cleared entered_at_with entered_with session_ok_with side_for_with form_ok_with tr_form_ok state_form_ok_with expanded_ok_with triple_ok_with heads_ok fits_with part_with mark_with append add_with find_with same_triple chain_with head_of slot tr_next_at target_at field_of next_with first_with expanded_with triple_at tr_room_with state_room_with room_with put first linked settings_ok well_formed_up_to size_up_to state_ok tr_ok marks_ok acceptor start_at final_at is_zero times steps_at step_of given kept_at kept_along flat_map walk lookup has sigma_trs sigma_matches labelled keep_if sorted_matches none_at all_at every direction_at side_of sorted no_fall interval side_mark acceptor_mark state_count tr_count start_word state_word tr_word first_ok next_ok first_of next_of list_by list_from list_of heard ignored_ok
star_1 = refl
