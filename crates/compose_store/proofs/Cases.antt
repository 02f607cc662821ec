-- What `expand_state` requires can be met: the machines of 01's listing, just opened, with one head, room for two states and one transition.
use mathlib.Core.Path.{◌≡◌, refl}
use mathlib.Core.Bool.{false}
use mathlib.Core.List.{[], ◌∷◌}
use lib.ListN.{replicate}
use Rattle.lists.specs.Lists.{every, interval}
use Rattle.words.specs.Labels.{MAX, good}
use Rattle.words.specs.Machines.{state_count, tr_count, start_word, side_mark, acceptor_mark, state_word, tr_word, first_ok, next_ok, first_of, next_of, list_by, list_from, list_of, no_fall, sorted, state_ok, tr_ok, acceptor, marks_ok, size_up_to, well_formed_up_to}
use Rattle.words.specs.Ignored.{ignored_ok, heard, words_read}
use Rattle.words.specs.Sigmas.{has}
use Rattle.words.specs.Sides.{side_of}
use Rattle.words.specs.Settings.{settings_ok}
use Rattle.calls.specs.Store.{triple_at, target_at, tr_next_at, expanded_with, field_of, first_with, next_with, room_with, state_room_with, tr_room_with}
use Rattle.calls.specs.Forms.{heads_ok, tr_form_ok, expanded_ok_with, fits_with, form_ok_with, state_form_ok_with, triple_ok_with}
use Rattle.calls.specs.Checks.{entered, entered_with, session_ok_with, side_for_with}
use Rattle.calls.proofs.StarCases.{example1, example2}
use Rattle.fst.specs.declared.MatchType.TheVariants.{MatchOutput}
use Rattle.match_type.specs.declared.Side.TheVariants.{Only}
use Rattle.compose_fst_op.specs.Composing.{lent_of, composing}
use Rattle.compose_fst_op.specs.declared.ComposeFstOpOptions.{ComposeFstOpOptions}
use Rattle.store_records.specs.Meaning.{memory_of}
use Rattle.compose_store.specs.Meaning.{session_under}

-- `0 0 4294967295 0 4294967295 0`, side output
abbrev options : ComposeFstOpOptions
options = record {
  kind = 0;
  filter = 0;
  side = Only MatchOutput;
  sigma1 = record { label = record { 0 = MAX }; mode = 0; listed = false; acceptor = 0 };
  sigma2 = record { label = record { 0 = MAX }; mode = 0; listed = false; acceptor = 0 };
}

met : entered (lent_of options example1 example2 [] [] []) (session_under options (record { states = 1; trs = 0 })) (memory_of (1 ∷ []) (replicate 12 0) (replicate 5 0)) ≡ good (composing options example1 example2 [] [] [])
unfolding entered_with session_ok_with side_for_with settings_ok well_formed_up_to size_up_to state_ok tr_ok marks_ok acceptor side_of sorted no_fall list_of list_from list_by first_of next_of first_ok next_ok state_word tr_word acceptor_mark side_mark start_word tr_count state_count fits_with form_ok_with heads_ok state_form_ok_with triple_ok_with expanded_ok_with tr_form_ok triple_at expanded_with first_with next_with field_of target_at tr_next_at state_room_with tr_room_with room_with every interval ignored_ok heard has words_read
met = refl
