-- Closed cases of `steps_left`: state 1 of 01's listing, (1, 0, 0), whose one transition is 0:7 of weight 4 to (1, 1, 0). The direction is output: machine 2 is walked.
use mathlib.Core.Path.{◌≡◌, refl}
use mathlib.Core.Bool.{Bool, true, false}
use mathlib.Core.List.{List, [], ◌∷◌, flat_map}
use Rattle.std.specs.Prelude.{None}
use Prim.Native.Nat.{ℕ}
use Rattle.lists.specs.Lists.{keep_if}
use Rattle.words.specs.Labels.{no_label, Checked, good}
use Rattle.words.specs.Weights.{times}
use Rattle.words.specs.Matches.{labelled, sorted_matches}
use Rattle.words.specs.Machines.{state_count, tr_count, state_word, tr_word, first_ok, next_ok, first_of, next_of, list_by, list_from, list_of}
use Rattle.words.specs.Ignored.{words_read}
use Rattle.words.specs.Sigmas.{sigma_trs, sigma_matches, lookup}
use Rattle.words.specs.Settings.{Lent}
use Rattle.words.specs.Steps.{Step}
use Rattle.fst.specs.declared.MatchType.TheVariants.{MatchOutput}
use Rattle.match_type.specs.declared.Side.TheVariants.{Only}
use Rattle.matchers.specs.declared.sigma_matcher.Sigma.{Sigma}
use Rattle.compose_fst_op.specs.declared.ComposeFstOpOptions.{ComposeFstOpOptions}
use Rattle.matchers.specs.declared.Phase.TheVariants.{Own}
use Rattle.matchers.specs.Meaning.{lookup_items}
use Rattle.matchers.specs.Cursors.{records_from, with_label, sigma_left, own_left, matches_left, items_left}
use Rattle.compose_moves.specs.Moves.{steps_of}
use Rattle.compose_moves.specs.Walks.{edge_steps, tr_steps, trs_steps, walk_left}
use Rattle.compose_moves.specs.Cursors.{steps_left}
use Rattle.compose_moves.specs.declared.MoveCursor.{MoveCursor}

abbrev pub unset : Sigma
unset = record { label = record { 0 = no_label }; mode = 0; listed = false; acceptor = 0 }

abbrev pub options : ComposeFstOpOptions
options = record { kind = 0; filter = 0; side = Only MatchOutput; sigma1 = unset; sigma2 = unset }

abbrev pub machines : Lent
machines = record {
  m1 = 3 ∷ 2 ∷ 1 ∷ 0 ∷ 0 ∷ 0 ∷ 1 ∷ 0 ∷ 0 ∷ 2 ∷ 0 ∷ 0 ∷ 0 ∷ 1 ∷ 0 ∷ 1 ∷ 0 ∷ 1 ∷ 1 ∷ 0 ∷ 2 ∷ 5 ∷ 2 ∷ 2 ∷ 0 ∷ [];
  m2 = 3 ∷ 2 ∷ 1 ∷ 0 ∷ 0 ∷ 0 ∷ 1 ∷ 0 ∷ 0 ∷ 2 ∷ 0 ∷ 0 ∷ 0 ∷ 1 ∷ 3 ∷ 0 ∷ 7 ∷ 4 ∷ 1 ∷ 0 ∷ 5 ∷ 8 ∷ 1 ∷ 2 ∷ 0 ∷ [];
  allowed1 = None;
  allowed2 = None;
  ignored = [];
}

-- at this walked record, with the look-up of that label, its loop due or not
abbrev pub cursor : ℕ → ℕ → Bool → MoveCursor
cursor walked label loops = record {
  tuple = record { fs = 0; s1 = record { 0 = 1 }; s2 = record { 0 = 0 } };
  facts = record { none1 = true; all1 = false; none2 = false; all2 = true };
  on = MatchOutput;
  walked = walked;
  matches = record { on = MatchOutput; label = record { 0 = label }; sigma = record { 0 = no_label }; labels = record { first = record { 0 = no_label }; second = record { 0 = no_label } }; both = false; phase = Own; loops = loops; tr = 2; sigmas = 0 };
}

-- its own `unfolding` line opens all that it calls
unfoldable left : ℕ → ℕ → Bool → List (Checked Step)
unfolding steps_left walk_left trs_steps tr_steps edge_steps steps_of times flat_map lookup_items lookup sorted_matches sigma_matches sigma_trs labelled items_left matches_left own_left sigma_left with_label records_from keep_if state_count tr_count state_word tr_word first_ok next_ok first_of next_of list_by list_from list_of words_read
left walked label loops = steps_left options machines (cursor walked label loops)

abbrev transition : List (Checked Step)
transition = good (record { input = 0; output = 7; weight = 4; to = record { s1 = 1; s2 = 1; f = 0 } }) ∷ []

-- while machine 2 rests: machine 1 has no epsilon output there, and the walk goes on to 0:7
at_rest : left 0 no_label false ≡ transition
unfolding left
at_rest = refl

-- 0:7 is walked, and machine 1's loop is due
at_loop : left 1 0 true ≡ transition
unfolding left
at_loop = refl

-- 0:7 is walked, and the loop has been given: nothing is left
at_end : left 1 0 false ≡ []
unfolding left
at_end = refl
