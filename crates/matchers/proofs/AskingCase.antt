-- Closed look-ups, asked on: the words of one state with 0:6, 4:6 and 9:9, of weights 1, 2 and 3, matched on inputs. First, replies that the contracts allow; then, that whatever replies they allow give
-- the same.
use mathlib.Core.Path.{◌≡◌, refl, ap, ◌∙◌}
use mathlib.Core.Bool.{Bool, true, false}
use mathlib.Core.List.{List, [], ◌∷◌}
use mathlib.Core.Logic.{inl}
use Rattle.std.specs.Prelude.{None, Some, Result, Ok, Err}
use Prim.Native.Nat.{ℕ, ◌+◌}
use native.Mathlib.Omega.{arith}
use contract.Lifetimes.{Lfts}
use denote.Ref.{Bor}
use Rattle.lists.specs.Lists.{keep_if}
use Rattle.lists.specs.Asking.{AskedOn}
use Rattle.words.specs.Labels.{no_label}
use Rattle.words.specs.Matches.{inputs, loop, own, viaSigma, labelled, sorted_matches}
use Rattle.words.specs.Machines.{acceptor_mark, state_count, tr_count, state_word, tr_word, first_ok, next_ok, first_of, next_of, list_by, list_from, list_of, machine_of}
use Rattle.words.specs.Ignored.{words_read}
use Rattle.words.specs.Sigmas.{sigma_trs, sigma_matches, lookup, rewrite}
use Rattle.fst.specs.declared.MatchType.TheVariants.{MatchInput}
use Rattle.fst.specs.declared.Sigmas.{Sigmas as Labels}
use Rattle.fst.specs.declared.refusals.Refusal.{Refusal}
use Rattle.fst.specs.declared.refusals.Refusal.TheVariants.{WalkedSigma}
use Rattle.fst.specs.Refusals.{number_of}
use Rattle.matchers.specs.Meaning.{Item, the_loop, whole, item_of, sorted_items, lookup_items, stands_for}
use Rattle.matchers.specs.Cursors.{records_from, with_label, sigma_left, own_left, matches_left, items_left, Step, given_by}
use Rattle.matchers.specs.Asking.{onward, Gives}
use Rattle.matchers.specs.declared.IterItemMatcher.{IterItemMatcher}
use Rattle.matchers.specs.declared.IterItemMatcher.TheVariants.{EpsLoop, Tr}
use Rattle.matchers.specs.declared.Phase.{Phase}
use Rattle.matchers.specs.declared.Phase.TheVariants.{Own, Sigmas}
use Rattle.matchers.specs.declared.Cursor.{Cursor}
use Rattle.matchers.specs.declared.sigma_matcher.Sigma.{Sigma}
use Rattle.matchers.proofs.Asking.{SortedReply, SigmaReply, NextReply, sorted_asked_on, sigma_asked_on}

abbrev pub words : List ℕ
words = 1 ∷ 3 ∷ 1 ∷ 1 ∷ 0 ∷ 0 ∷ 1 ∷ 0 ∷ 0 ∷ 0 ∷ 6 ∷ 1 ∷ 0 ∷ 2 ∷ 4 ∷ 6 ∷ 2 ∷ 0 ∷ 3 ∷ 9 ∷ 9 ∷ 3 ∷ 0 ∷ 0 ∷ []

-- a transition of the state, which leads back to it
abbrev pub tr : ℕ → ℕ → ℕ → IterItemMatcher
tr i o w = Tr (record { ilabel = record { 0 = i }; olabel = record { 0 = o }; weight = w; nextstate = record { 0 = 0 } })

abbrev item : ℕ → ℕ → ℕ → Item
item i o w = whole (record { input = i; output = o; weight = w; target = 0 })

-- The sigma look-up of 4, with the sigma label 9, rewritten on the matched side alone: 4:6, then sigma's 9:9 as 4:9, then the end.
abbrev pub sigma : Sigma
sigma = record { label = record { 0 = 9 }; mode = 2; listed = false; acceptor = 0 }

-- those of both machines
abbrev pub labels : Labels
labels = record { first = record { 0 = no_label }; second = record { 0 = 9 } }

abbrev pub four : Phase → ℕ → Cursor
four phase t = record { on = MatchInput; label = record { 0 = 4 }; sigma = record { 0 = 9 }; labels = labels; both = false; phase = phase; loops = false; tr = t; sigmas = 1 }

abbrev begins_four : Result Cursor Refusal
begins_four = Ok (four Own 2)

abbrev own_four : Step
own_four = (Some (tr 4 6 2), four Own 3)

abbrev sigma_four : Step
sigma_four = (Some (tr 4 9 3), four Sigmas 0)

abbrev end_four : Step
end_four = (None, four Sigmas 0)

-- The sorted look-up of 0: the loop, then 0:6, then the end.
abbrev zero : Phase → Bool → ℕ → Cursor
zero phase loops t = record { on = MatchInput; label = record { 0 = 0 }; sigma = record { 0 = no_label }; labels = labels; both = false; phase = phase; loops = loops; tr = t; sigmas = 0 }

abbrev loop_zero : Step
loop_zero = (Some EpsLoop, zero Own false 1)

abbrev own_zero : Step
own_zero = (Some (tr 0 6 1), zero Own false 2)

abbrev end_zero : Step
end_zero = (None, zero Sigmas false 0)

begins_is : {c : Cursor} → begins_four ≡ Ok c → four Own 2 ≡ c
begins_is e = cc

-- the refusal with the number 11
eleven : (k : Refusal) → number_of k ≡ 11 → k ≡ WalkedSigma
eleven WalkedSigma e = refl
eleven k e = absurd (omega arith)

-- the words are lent in a slice, wherever it lies; there is no allowed list, and no label is ignored
module _ (κr : Lfts 1) (κs κt : Lfts 2) (ptr : ℕ × ℕ) (unread : Bor (List ℕ)) where
  abbrev lent : Bor (List ℕ)
  lent = record { ref_ptr = ptr; now = words }

  abbrev none_ignored : Bor (List ℕ)
  none_ignored = record { ref_ptr = ptr; now = [] }

  abbrev Answer : Cursor → Step → Type 0
  Answer c r = NextReply κs lent none_ignored c r

  -- asking number k, counted from 0, of those that begin with the cursor c
  abbrev Gets : Cursor → ℕ → Step → Type 0
  Gets c k r = AskedOn Answer onward c k r

  pub four_begins : SigmaReply κt lent none_ignored unread MatchInput labels sigma (record { 0 = 0 }) (record { 0 = 4 }) begins_four
  unfolding stands_for lookup_items lookup sorted_items sorted_matches sigma_matches sigma_trs labelled list_of acceptor_mark items_left matches_left own_left sigma_left with_label records_from keep_if state_count tr_count state_word tr_word first_ok next_ok first_of next_of list_by list_from words_read
  four_begins = (refl, refl)

  four_own : Answer (four Own 2) own_four
  unfolding items_left matches_left own_left sigma_left with_label records_from keep_if state_count tr_count state_word tr_word first_ok next_ok first_of next_of list_by list_from words_read
  four_own = inl (refl, refl)

  four_sigma : Answer (four Own 3) sigma_four
  unfolding items_left matches_left own_left sigma_left with_label records_from keep_if state_count tr_count state_word tr_word first_ok next_ok first_of next_of list_by list_from words_read
  four_sigma = inl (refl, refl)

  four_end : Answer (four Sigmas 0) end_four
  unfolding items_left matches_left own_left sigma_left with_label records_from keep_if state_count tr_count state_word tr_word first_ok next_ok first_of next_of list_by list_from words_read
  four_end = inl (refl, refl)

  pub four_asked_on : Gets (four Own 2) 0 own_four × Gets (four Own 2) 1 sigma_four × Gets (four Own 2) 2 end_four × Gets (four Own 2) 3 end_four
  four_asked_on = (four_own, (own_four, four_own, four_sigma), (own_four, four_own, (sigma_four, four_sigma, four_end)), (own_four, four_own, (sigma_four, four_sigma, (end_four, four_end, four_end))))

  pub zero_begins : SortedReply κr lent none_ignored MatchInput labels (record { 0 = 0 }) (record { 0 = 0 }) (zero Own true 1)
  unfolding stands_for lookup_items lookup sorted_items sorted_matches sigma_matches sigma_trs labelled list_of acceptor_mark items_left matches_left own_left sigma_left with_label records_from keep_if state_count tr_count state_word tr_word first_ok next_ok first_of next_of list_by list_from words_read
  zero_begins = (refl, refl)

  zero_loop : Answer (zero Own true 1) loop_zero
  unfolding items_left matches_left own_left sigma_left with_label records_from keep_if state_count tr_count state_word tr_word first_ok next_ok first_of next_of list_by list_from words_read
  zero_loop = inl (refl, refl)

  zero_own : Answer (zero Own false 1) own_zero
  unfolding items_left matches_left own_left sigma_left with_label records_from keep_if state_count tr_count state_word tr_word first_ok next_ok first_of next_of list_by list_from words_read
  zero_own = inl (refl, refl)

  zero_end_lem : Answer (zero Own false 2) end_zero
  unfolding items_left matches_left own_left sigma_left with_label records_from keep_if state_count tr_count state_word tr_word first_ok next_ok first_of next_of list_by list_from words_read
  zero_end_lem = inl (refl, refl)

  zero_again : Answer (zero Sigmas false 0) end_zero
  unfolding items_left matches_left own_left sigma_left with_label records_from keep_if state_count tr_count state_word tr_word first_ok next_ok first_of next_of list_by list_from words_read
  zero_again = inl (refl, refl)

  pub zero_asked_on : Gets (zero Own true 1) 0 loop_zero × Gets (zero Own true 1) 1 own_zero × Gets (zero Own true 1) 2 end_zero × Gets (zero Own true 1) 3 end_zero
  zero_asked_on = (zero_loop, (loop_zero, zero_loop, zero_own), (loop_zero, zero_loop, (own_zero, zero_own, zero_end_lem)), (loop_zero, zero_loop, (own_zero, zero_own, (end_zero, zero_end_lem, zero_again))))

  -- whatever replies are allowed: of the sigma look-up of 4
  four_found : (c : Cursor) × (begins_four ≡ Ok c)
      × Gives Answer words 0 (record { on = inputs; label = 4; sigma = 9; labels = labels; both = false }) (λ u. item_of (machine_of words) (rewrite false inputs 9 4) u) (own 2 ∷ viaSigma 3 ∷ []) c
  unfolding lookup sorted_matches sigma_matches sigma_trs labelled keep_if state_count tr_count state_word tr_word first_ok next_ok first_of next_of list_by list_from list_of acceptor_mark words_read
  four_found = (sigma_asked_on κt κs lent none_ignored unread MatchInput labels sigma (record { 0 = 0 }) (record { 0 = 4 }) _ four_begins).gives (own 2 ∷ viaSigma 3 ∷ []) refl

  four_gives : Gives Answer words 0 (record { on = inputs; label = 4; sigma = 9; labels = labels; both = false }) (λ u. item_of (machine_of words) (rewrite false inputs 9 4) u) (own 2 ∷ viaSigma 3 ∷ []) (four Own 2)
  four_gives = let f = four_found in rw (begins_is f.1) f.2

  pub four_given : (r q : Step) → Gets (four Own 2) 0 r → Gets (four Own 2) 1 q → (given_by r ≡ Some (item 4 6 2)) × (given_by q ≡ Some (item 4 9 3))
  unfolding lookup sorted_matches sigma_matches sigma_trs labelled keep_if state_count tr_count state_word tr_word first_ok next_ok first_of next_of list_by list_from list_of acceptor_mark words_read
  four_given r q h i = (four_gives.in_order 0 r h (own 2) refl, four_gives.in_order 1 q i (viaSigma 3) refl)

  pub four_ended : (k : ℕ) (r : Step) → Gets (four Own 2) (2 + k) r → given_by r ≡ None
  four_ended k r h = four_gives.then_none (2 + k) r h (omega arith)

  -- of the sorted look-up of 0
  zero_gives : Gives Answer words 0 (record { on = inputs; label = 0; sigma = no_label; labels = labels; both = false }) (item_of (machine_of words) (λ t. t)) (loop ∷ own 1 ∷ []) (zero Own true 1)
  unfolding lookup sorted_matches sigma_matches sigma_trs labelled keep_if state_count tr_count state_word tr_word first_ok next_ok first_of next_of list_by list_from list_of acceptor_mark words_read
  zero_gives = sorted_asked_on κr κs lent none_ignored MatchInput labels (record { 0 = 0 }) (record { 0 = 0 }) _ zero_begins

  pub zero_given : (r q : Step) → Gets (zero Own true 1) 0 r → Gets (zero Own true 1) 1 q → (given_by r ≡ Some the_loop) × (given_by q ≡ Some (item 0 6 1))
  unfolding lookup sorted_matches sigma_matches sigma_trs labelled keep_if state_count tr_count state_word tr_word first_ok next_ok first_of next_of list_by list_from list_of acceptor_mark words_read
  zero_given r q h i = (zero_gives.in_order 0 r h loop refl, zero_gives.in_order 1 q i (own 1) refl)

  pub zero_ended : (k : ℕ) (r : Step) → Gets (zero Own true 1) (2 + k) r → given_by r ≡ None
  zero_ended k r h = zero_gives.then_none (2 + k) r h (omega arith)

  -- of the sigma look-up of the sigma label: refusal 11
  pub nine_refused : (i : Result Cursor Refusal) → SigmaReply κt lent none_ignored unread MatchInput labels sigma (record { 0 = 0 }) (record { 0 = 9 }) i → i ≡ Err WalkedSigma
  unfolding lookup sorted_matches sigma_matches sigma_trs labelled keep_if state_count tr_count state_word tr_word first_ok next_ok first_of next_of list_by list_from list_of acceptor_mark words_read
  nine_refused i h =
      let r = (sigma_asked_on κt κs lent none_ignored unread MatchInput labels sigma (record { 0 = 0 }) (record { 0 = 9 }) i h).refuses 11 refl in
      r.2 ∙ ap Err (eleven r.0 r.1)
