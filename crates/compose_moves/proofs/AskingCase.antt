-- Composed states, asked on from their start, under costs and the sequence filter. With side output: state 1 of 01's listing, (1, 0, 0): its one transition, 0:7 of weight 4 to (1, 1, 0), and then the end ever
-- after; the start of two machines whose one move is too heavy: refusal 12, ever after. With side both: a state at which both machines have sigma transitions: refusal 10, and no cursor.
use mathlib.Core.Path.{◌≡◌, refl, ap, ◌∙◌}
use mathlib.Core.Bool.{true, false}
use mathlib.Core.List.Memᴰ.{head as here}
use mathlib.Core.List.{List, [], ◌∷◌, flat_map}
use mathlib.Core.Logic.{inl, inr}
use Rattle.std.specs.Prelude.{None, Some, Result, Ok, Err}
use Prim.Native.Nat.{ℕ, suc}
use native.Mathlib.Omega.{arith}
use contract.Lifetimes.{Lfts}
use denote.Ref.{Bor}
use Rattle.lists.specs.Lists.{keep_if, every}
use Rattle.lists.specs.Asking.{AskedOn}
use Rattle.papers.specs.Filter.{no_epsilon, only_epsilons}
use Rattle.words.specs.Labels.{no_label, good, refused}
use Rattle.words.specs.Weights.{times}
use Rattle.words.specs.Matches.{outputs, labelled, sorted_matches}
use Rattle.words.specs.Machines.{acceptor_mark, state_count, tr_count, state_word, tr_word, first_ok, next_ok, first_of, next_of, list_by, list_from, list_of}
use Rattle.words.specs.Ignored.{heard, words_read}
use Rattle.words.specs.Sigmas.{has, sigma_trs, sigma_matches, lookup, given}
use Rattle.words.specs.Sides.{direction_at}
use Rattle.words.specs.Filters.{none_at, all_at}
use Rattle.words.specs.Steps.{walk, kept_along, kept_at, step_of, steps_at}
use Rattle.fst.specs.declared.MatchType.TheVariants.{MatchOutput}
use Rattle.fst.specs.declared.refusals.Refusal.{Refusal}
use Rattle.fst.specs.declared.refusals.Refusal.TheVariants.{BothMatch, TooLarge}
use Rattle.fst.specs.Refusals.{number_of}
use Rattle.match_type.specs.declared.Side.TheVariants.{Both}
use Rattle.matchers.specs.declared.Phase.TheVariants.{Own}
use Rattle.matchers.specs.declared.sigma_matcher.Sigma.{Sigma}
use Rattle.matchers.specs.Meaning.{lookup_items}
use Rattle.matchers.specs.Cursors.{records_from, with_label, sigma_left, own_left, matches_left, items_left}
use Rattle.compose_state_tuple.specs.declared.ComposeStateTuple.{ComposeStateTuple}
use Rattle.compose_fst_op.specs.declared.ComposeFstOpOptions.{ComposeFstOpOptions}
use Rattle.compose_moves.specs.Moves.{steps_of}
use Rattle.compose_moves.specs.Walks.{edge_steps, tr_steps, trs_steps, walk_left}
use Rattle.compose_moves.specs.Cursors.{steps_left, NextStep}
use Rattle.compose_moves.specs.Asking.{given_by, onward}
use Rattle.compose_moves.specs.declared.MoveCursor.{MoveCursor}
use Rattle.compose_moves.proofs.Cases.{machines, cursor, options}
use Rattle.compose_moves.proofs.Asking.{StartReply, StepReply, moves_asked_on, from_cursor}

abbrev state : ℕ → ComposeStateTuple
state s1 = record { fs = 0; s1 = record { 0 = s1 }; s2 = record { 0 = 0 } }

-- before the first move of (1, 0, 0) machine 2 rests
abbrev first : MoveCursor
first = cursor 0 no_label false

-- 0:7 was walked, and machine 1's loop given: no epsilon of machine 1 is left
abbrev second : MoveCursor
second = cursor 1 0 false

abbrev lone : NextStep
lone = Ok (Some (record { ilabel = record { 0 = 0 }; olabel = record { 0 = 7 }; weight = 4; tuple = record { fs = 0; s1 = record { 0 = 1 }; s2 = record { 0 = 1 } } }, second))

abbrev done : NextStep
done = Ok None

abbrev heavy_step : NextStep
heavy_step = Err TooLarge

abbrev start : MoveCursor → Result MoveCursor Refusal
start c = Ok c

-- two machines, 1:5 and 5:8 of weight 4000000000 each
abbrev heavy1 : List ℕ
heavy1 = 2 ∷ 1 ∷ 1 ∷ 0 ∷ 0 ∷ 0 ∷ 1 ∷ 0 ∷ 0 ∷ 0 ∷ 1 ∷ 0 ∷ 1 ∷ 5 ∷ 4000000000 ∷ 1 ∷ 0 ∷ []

abbrev heavy2 : List ℕ
heavy2 = 2 ∷ 1 ∷ 1 ∷ 0 ∷ 0 ∷ 0 ∷ 1 ∷ 0 ∷ 0 ∷ 0 ∷ 1 ∷ 0 ∷ 5 ∷ 8 ∷ 4000000000 ∷ 1 ∷ 0 ∷ []

abbrev heavy : MoveCursor
heavy = record {
  tuple = state 0;
  facts = record { none1 = true; all1 = false; none2 = true; all2 = false };
  on = MatchOutput;
  walked = 0;
  matches = record { on = MatchOutput; label = record { 0 = no_label }; sigma = record { 0 = no_label }; labels = record { first = record { 0 = no_label }; second = record { 0 = no_label } }; both = false; phase = Own; loops = false; tr = 0; sigmas = 0 };
}

-- two machines whose one state has a sigma transition on its inner side, 1:9 and 8:2
abbrev sigma1 : List ℕ
sigma1 = 1 ∷ 1 ∷ 1 ∷ 0 ∷ 0 ∷ 0 ∷ 1 ∷ 1 ∷ 0 ∷ 1 ∷ 9 ∷ 0 ∷ 0 ∷ 0 ∷ []

abbrev sigma2 : List ℕ
sigma2 = 1 ∷ 1 ∷ 1 ∷ 0 ∷ 0 ∷ 0 ∷ 1 ∷ 1 ∷ 0 ∷ 8 ∷ 2 ∷ 0 ∷ 0 ∷ 0 ∷ []

abbrev named : ℕ → Sigma
named x = record { label = record { 0 = x }; mode = 2; listed = false; acceptor = 0 }

abbrev both_sigmas : ComposeFstOpOptions
both_sigmas = record { kind = 0; filter = 0; side = Both; sigma1 = named 9; sigma2 = named 8 }

-- the refusal with the number 10
ten : (k : Refusal) → number_of k ≡ 10 → k ≡ BothMatch
ten BothMatch e = refl
ten k e = absurd (omega arith)

-- the words are lent in slices, wherever they lie; there are no allowed lists, and no label is ignored
module _ (κs : Lfts 3) (κt : Lfts 5) (ptr1 ptr2 : ℕ × ℕ) (unread1 unread2 : Bor (List ℕ)) where
  abbrev in1 : List ℕ → Bor (List ℕ)
  in1 words = record { ref_ptr = ptr1; now = words }

  abbrev in2 : List ℕ → Bor (List ℕ)
  in2 words = record { ref_ptr = ptr2; now = words }

  abbrev none_ignored : Bor (List ℕ)
  none_ignored = record { ref_ptr = ptr1; now = [] }

  -- (1, 0, 0)
  abbrev Answer : MoveCursor → NextStep → Type 0
  Answer c r = StepReply κt (in1 machines.m1) (in2 machines.m2) unread1 unread2 none_ignored options c r

  abbrev Gets : ℕ → NextStep → Type 0
  Gets k r = AskedOn Answer onward first k r

  pub begins : StartReply κs (in1 machines.m1) (in2 machines.m2) none_ignored options (state 1) (start first)
  unfolding steps_at kept_at kept_along walk step_of given direction_at none_at all_at no_epsilon only_epsilons every steps_left walk_left trs_steps tr_steps edge_steps steps_of times flat_map lookup_items lookup sorted_matches sigma_matches sigma_trs labelled items_left matches_left own_left sigma_left with_label records_from keep_if state_count tr_count state_word tr_word first_ok next_ok first_of next_of list_by list_from list_of acceptor_mark words_read heard has
  begins = (λ a1 a2. refl, λ a1 a2. record { state = refl; facts = refl; direction = refl; place = record { walked = inl refl; matches = record { whole = refl; tr = inr (here refl); sigmas = inl refl } } })

  one_step : Answer first lone
  unfolding steps_at kept_at kept_along walk step_of given direction_at none_at all_at no_epsilon only_epsilons every steps_left walk_left trs_steps tr_steps edge_steps steps_of times flat_map lookup_items lookup sorted_matches sigma_matches sigma_trs labelled items_left matches_left own_left sigma_left with_label records_from keep_if state_count tr_count state_word tr_word first_ok next_ok first_of next_of list_by list_from list_of acceptor_mark words_read heard has
  one_step = (refl, (refl, λ p. record { walked = inr (here refl); matches = record { whole = refl; tr = inr (here refl); sigmas = inl refl } }))

  no_step : Answer second done
  unfolding steps_at kept_at kept_along walk step_of given direction_at none_at all_at no_epsilon only_epsilons every steps_left walk_left trs_steps tr_steps edge_steps steps_of times flat_map lookup_items lookup sorted_matches sigma_matches sigma_trs labelled items_left matches_left own_left sigma_left with_label records_from keep_if state_count tr_count state_word tr_word first_ok next_ok first_of next_of list_by list_from list_of acceptor_mark words_read heard has
  no_step = (refl, tt)

  pub asked : Gets 0 lone × Gets 1 done × Gets 2 done
  asked = (one_step, (lone, one_step, no_step), (lone, one_step, (done, no_step, no_step)))

  -- whatever replies are allowed
  pub gives : (r : NextStep) → Gets 0 r → given_by r ≡ Some (good (record { input = 0; output = 7; weight = 4; to = record { s1 = 1; s2 = 1; f = 0 } }))
  unfolding steps_at kept_at kept_along walk step_of given direction_at none_at all_at no_epsilon only_epsilons every steps_left walk_left trs_steps tr_steps edge_steps steps_of times flat_map lookup_items lookup sorted_matches sigma_matches sigma_trs labelled items_left matches_left own_left sigma_left with_label records_from keep_if state_count tr_count state_word tr_word first_ok next_ok first_of next_of list_by list_from list_of acceptor_mark words_read heard has
  gives r h = (from_cursor outputs refl (moves_asked_on κs κt (in1 machines.m1) (in2 machines.m2) unread1 unread2 none_ignored options (state 1) (start first) begins)).in_order 0 r h

  pub then_ends : (k : ℕ) (r : NextStep) → Gets (suc k) r → given_by r ≡ None
  unfolding steps_at kept_at kept_along walk step_of given direction_at none_at all_at no_epsilon only_epsilons every steps_left walk_left trs_steps tr_steps edge_steps steps_of times flat_map lookup_items lookup sorted_matches sigma_matches sigma_trs labelled items_left matches_left own_left sigma_left with_label records_from keep_if state_count tr_count state_word tr_word first_ok next_ok first_of next_of list_by list_from list_of acceptor_mark words_read heard has
  then_ends k r h = (from_cursor outputs refl (moves_asked_on κs κt (in1 machines.m1) (in2 machines.m2) unread1 unread2 none_ignored options (state 1) (start first) begins)).in_order (suc k) r h

  -- the start of the heavy machines
  abbrev HeavyAnswer : MoveCursor → NextStep → Type 0
  HeavyAnswer c r = StepReply κt (in1 heavy1) (in2 heavy2) unread1 unread2 none_ignored options c r

  heavy_begins : StartReply κs (in1 heavy1) (in2 heavy2) none_ignored options (state 0) (start heavy)
  unfolding steps_at kept_at kept_along walk step_of given direction_at none_at all_at no_epsilon only_epsilons every steps_left walk_left trs_steps tr_steps edge_steps steps_of times flat_map lookup_items lookup sorted_matches sigma_matches sigma_trs labelled items_left matches_left own_left sigma_left with_label records_from keep_if state_count tr_count state_word tr_word first_ok next_ok first_of next_of list_by list_from list_of acceptor_mark words_read heard has
  heavy_begins = (λ a1 a2. refl, λ a1 a2. record { state = refl; facts = refl; direction = refl; place = record { walked = inl refl; matches = record { whole = refl; tr = inl refl; sigmas = inl refl } } })

  pub too_heavy : HeavyAnswer heavy heavy_step
  unfolding steps_at kept_at kept_along walk step_of given direction_at none_at all_at no_epsilon only_epsilons every steps_left walk_left trs_steps tr_steps edge_steps steps_of times flat_map lookup_items lookup sorted_matches sigma_matches sigma_trs labelled items_left matches_left own_left sigma_left with_label records_from keep_if state_count tr_count state_word tr_word first_ok next_ok first_of next_of list_by list_from list_of acceptor_mark words_read heard has
  too_heavy = (refl, tt)

  pub ever_too_heavy : (k : ℕ) (r : NextStep) → AskedOn HeavyAnswer onward heavy k r → given_by r ≡ Some (refused 12)
  unfolding steps_at kept_at kept_along walk step_of given direction_at none_at all_at no_epsilon only_epsilons every steps_left walk_left trs_steps tr_steps edge_steps steps_of times flat_map lookup_items lookup sorted_matches sigma_matches sigma_trs labelled items_left matches_left own_left sigma_left with_label records_from keep_if state_count tr_count state_word tr_word first_ok next_ok first_of next_of list_by list_from list_of acceptor_mark words_read heard has
  ever_too_heavy k r h = (from_cursor outputs refl (moves_asked_on κs κt (in1 heavy1) (in2 heavy2) unread1 unread2 none_ignored options (state 0) (start heavy) heavy_begins)).in_order k r h

  -- both machines have sigma transitions
  pub no_direction : (b : Result MoveCursor Refusal) → StartReply κs (in1 sigma1) (in2 sigma2) none_ignored both_sigmas (state 0) b → b ≡ Err BothMatch
  unfolding direction_at sigma_trs labelled keep_if state_count tr_count state_word tr_word first_ok next_ok first_of next_of list_by list_from list_of words_read heard has
  no_direction b h =
      let r = (moves_asked_on κs κt (in1 sigma1) (in2 sigma2) unread1 unread2 none_ignored both_sigmas (state 0) b h).refuses 10 refl in
      r.2 ∙ ap Err (ten r.0 r.1)
