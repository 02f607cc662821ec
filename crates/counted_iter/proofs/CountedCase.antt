-- Closed look-ups that count, on the words of `matchers`' closed look-ups (0:6, 4:6 and 9:9, sigma 9): replies that the contract allows, and that whatever reply it allows states the same number and hands out as many.
use mathlib.Core.Path.{◌≡◌, refl}
use mathlib.Core.Bool.{false}
use mathlib.Core.List.{List, []}
use Prim.Native.Nat.{ℕ}
use contract.Lifetimes.{Lfts}
use denote.Ref.{Bor}
use Rattle.lists.specs.Lists.{keep_if}
use Rattle.words.specs.Labels.{no_label, good}
use Rattle.words.specs.Matches.{labelled, sorted_matches}
use Rattle.words.specs.Machines.{acceptor_mark, state_count, tr_count, state_word, tr_word, first_ok, next_ok, first_of, next_of, list_by, list_from, list_of}
use Rattle.words.specs.Ignored.{words_read}
use Rattle.words.specs.Sigmas.{sigma_trs, sigma_matches, lookup}
use Rattle.fst.specs.declared.MatchType.TheVariants.{MatchInput}
use Rattle.fst.specs.declared.Sigmas.{Sigmas as Labels}
use Rattle.fst.specs.declared.refusals.Refusal.TheVariants.{WalkedSigma}
use Rattle.fst.specs.Refusals.{checked_by}
use Rattle.std.specs.Prelude.{None, Some, Ok, Err}
use Rattle.fan_outs.specs.FanOut.{fan_out}
use Rattle.matchers.specs.Meaning.{lookup_items, stands_for}
use Rattle.matchers.specs.Cursors.{records_from, with_label, sigma_left, own_left, matches_left, items_left}
use Rattle.matchers.specs.declared.IterItemMatcher.TheVariants.{EpsLoop}
use Rattle.matchers.specs.declared.Phase.TheVariants.{Own, Sigmas}
use Rattle.matchers.specs.declared.Cursor.{Cursor}
use Rattle.matchers.specs.declared.sigma_matcher.Sigma.{Sigma}
use Rattle.matchers.proofs.Asking.{NextReply}
use Rattle.matchers.proofs.AskingCase.{words, tr, sigma, labels, four}
use Rattle.counted_iter.specs.Counted.{CountedIter, count_of}
use Rattle.counted_iter.specs.HandedOut.{HandedOut}
use Rattle.counted_iter.proofs.HandedOut.{CountedReply, count_is_handed_out}

-- no sigma is set
abbrev plain : Sigma
plain = record { label = record { 0 = no_label }; mode = 0; listed = false; acceptor = 0 }

-- those of both machines, of which the other has none
abbrev labels_with : Sigma → Labels
labels_with sigma = record { first = record { 0 = no_label }; second = sigma.label }

-- the cursor after the loop of a look-up of 0, and after a look-up of 5 that has no match
abbrev zero : Cursor
zero = record { on = MatchInput; label = record { 0 = 0 }; sigma = record { 0 = 9 }; labels = labels_with sigma; both = false; phase = Own; loops = false; tr = 1; sigmas = 0 }

abbrev five : Cursor
five = record { on = MatchInput; label = record { 0 = 5 }; sigma = record { 0 = no_label }; labels = labels_with plain; both = false; phase = Sigmas; loops = false; tr = 0; sigmas = 0 }

-- the words are lent in a slice, wherever it lies; there is no allowed list, and no label is ignored
module _ (κs κt : Lfts 2) (ptr : ℕ × ℕ) (unread : Bor (List ℕ)) where
  abbrev lent : Bor (List ℕ)
  lent = record { ref_ptr = ptr; now = words }

  abbrev none_ignored : Bor (List ℕ)
  none_ignored = record { ref_ptr = ptr; now = [] }

  abbrev Reply : Sigma → ℕ → CountedIter → Type 0
  Reply sigma x i = CountedReply κt lent none_ignored unread MatchInput (labels_with sigma) sigma (record { 0 = 0 }) (record { 0 = x }) i

  -- of 4: two, an own match and a sigma match
  pub four_counted : Reply sigma 4 (Ok (Some (2, tr 4 6 2), four Own 3))
  unfolding fan_out stands_for lookup_items lookup sorted_matches sigma_matches sigma_trs labelled list_of acceptor_mark items_left matches_left own_left sigma_left with_label records_from keep_if state_count tr_count state_word tr_word first_ok next_ok first_of next_of list_by list_from words_read
  four_counted = (refl, (refl, refl))

  -- of 0: two, the loop and 0:6
  pub zero_counted : Reply sigma 0 (Ok (Some (2, EpsLoop), zero))
  unfolding fan_out stands_for lookup_items lookup sorted_matches sigma_matches sigma_trs labelled list_of acceptor_mark items_left matches_left own_left sigma_left with_label records_from keep_if state_count tr_count state_word tr_word first_ok next_ok first_of next_of list_by list_from words_read
  zero_counted = (refl, (refl, refl))

  -- of 5, without sigma: none
  pub five_counted : Reply plain 5 (Ok (None, five))
  unfolding fan_out stands_for lookup_items lookup sorted_matches sigma_matches sigma_trs labelled list_of acceptor_mark items_left matches_left own_left sigma_left with_label records_from keep_if state_count tr_count state_word tr_word first_ok next_ok first_of next_of list_by list_from words_read
  five_counted = (refl, (refl, refl))

  -- of the sigma label: 11
  pub nine_counted : Reply sigma 9 (Err WalkedSigma)
  unfolding fan_out stands_for lookup_items lookup sorted_matches sigma_matches sigma_trs labelled list_of acceptor_mark items_left matches_left own_left sigma_left with_label records_from keep_if state_count tr_count state_word tr_word first_ok next_ok first_of next_of list_by list_from words_read
  nine_counted = (refl, (refl, tt))

  -- whatever reply is allowed to the look-up of 4 states two, and hands out two
  pub four_handed_out : (i : CountedIter) → Reply sigma 4 i → (checked_by count_of i ≡ good 2) × HandedOut (NextReply κs lent none_ignored) i 2
  unfolding fan_out lookup sorted_matches sigma_matches sigma_trs labelled keep_if state_count tr_count state_word tr_word first_ok next_ok first_of next_of list_by list_from list_of acceptor_mark words_read
  four_handed_out i h = (h.0, (count_is_handed_out κt κs lent none_ignored unread MatchInput labels sigma (record { 0 = 0 }) (record { 0 = 4 }) i h).handed_out 2 h.0)
