-- The form of a closed case: what `composed_lines` prints for three lines of words, or what a list of calls returns and leaves.
use mathlib.Core.Path.{◌≡◌, sym, subst}
use mathlib.Core.List.Memᴰ
use mathlib.Core.List.{List, [], ◌∷◌, flat_map, Memᴰ as In}
use mathlib.Core.Logic.{⊎_elim}
use Prim.Native.Nat.{ℕ}
use Rattle.lists.specs.Lists.{keep_if, every, interval, put, first, linked}
use Rattle.words.specs.Labels.{collect}
use Rattle.words.specs.Weights.{times, is_zero}
use Rattle.words.specs.Matches.{labelled, sorted_matches}
use Rattle.words.specs.Machines.{state_count, tr_count, start_word, side_mark, acceptor_mark, state_word, tr_word, first_ok, next_ok, first_of, next_of, list_by, list_from, list_of, no_fall, sorted, state_ok, tr_ok, acceptor, marks_ok, size_up_to, well_formed_up_to}
use Rattle.words.specs.Ignored.{heard, ignored_ok}
use Rattle.words.specs.Sides.{side_of, direction_at}
use Rattle.words.specs.Filters.{none_at, all_at}
use Rattle.words.specs.Sigmas.{has, sigma_trs, sigma_matches, lookup, given}
use Rattle.words.specs.Steps.{walk, kept_along, kept_at, step_of, steps_at, start_at, final_at}
use Rattle.words.specs.Settings.{settings_ok, Lent}
use Rattle.calls.specs.Store.{triple_at, target_at, tr_next_at, slot, head_of, same_triple, append, add_with, chain_with, expanded_with, field_of, find_with, first_with, mark_with, next_with, part_with, room_with, state_room_with, tr_room_with}
use Rattle.calls.specs.Forms.{heads_ok, tr_form_ok, expanded_ok_with, fits_with, form_ok_with, state_form_ok_with, triple_ok_with}
use Rattle.calls.specs.Checks.{entered_at_with, entered_with, session_ok_with, side_for_with}
use Rattle.calls.specs.Calls.{cleared, begun_with, expand_with, expansion_with, final_weight_with, open_with, reach_with, records_with, run_from_with, run_with, store_step_with, store_steps_with}
use Rattle.calls.specs.Sequences.{World, Call, Reply, replies, after, after_with, call_with, replies_with}
use Rattle.calls.specs.Listing.{Line, tr_lines, composed_lines, listing}

pub data Case : Type 0 where
  -- settings, machine 1, machine 2: the lines printed
  printing : List ℕ → List ℕ → List ℕ → List Line → Case
  -- what every later call is lent, the session and memory at first, the calls: all that is returned, and what is left
  calling : Lent → World → List Call → List Reply → World → Case

-- The case holds. Its own `unfolding` line opens all that the calls are made of: a closed case names `Holds` alone.
unfoldable pub Holds : Case → Type 0
unfolding call_with replies_with after_with listing composed_lines tr_lines records_with run_with run_from_with final_weight_with expand_with expansion_with store_steps_with store_step_with reach_with open_with begun_with cleared entered_at_with entered_with session_ok_with side_for_with form_ok_with tr_form_ok state_form_ok_with expanded_ok_with triple_ok_with heads_ok fits_with part_with mark_with append add_with find_with same_triple chain_with head_of slot tr_next_at target_at field_of next_with first_with expanded_with triple_at tr_room_with state_room_with room_with put first linked settings_ok well_formed_up_to size_up_to state_ok tr_ok marks_ok acceptor collect start_at final_at is_zero times steps_at step_of given kept_at kept_along flat_map walk lookup has sigma_trs sigma_matches labelled keep_if sorted_matches none_at all_at every direction_at side_of sorted no_fall interval side_mark acceptor_mark state_count tr_count start_word state_word tr_word first_ok next_ok first_of next_of list_by list_from list_of heard ignored_ok
Holds (printing w m1 m2 wants) = listing w m1 m2 ≡ wants
Holds (calling l w cs rs left) = (replies l w cs ≡ rs) × (after l w cs ≡ left)

-- all cases of a table hold
unfoldable pub AllHold : List Case → Type 0
AllHold [] = Unit {0}
AllHold (c ∷ cs) = Holds c × AllHold cs

pub each_holds : (cs : List Case) → AllHold cs → (c : Case) → In c cs → Holds c
unfolding AllHold
each_holds [] h c i = absurd (Memᴰ.not-nil i)
each_holds (x ∷ xs) h c i = ⊎_elim (λ e. subst Holds (sym e) h.0) (λ j. each_holds xs h.1 c j) (Memᴰ.cases_cons i)
