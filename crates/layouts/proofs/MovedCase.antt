-- 8 and 13 do move: on 65536 transition records, all words 0, the old calls refuse where the new ones accept. State 0 is the pair 0, 0 of 01's case 1.
use mathlib.Core.Path.{◌≡◌, refl, sym, ◌∙◌}
use mathlib.Core.List.{List, [], ◌∷◌, flat_map}
use mathlib.Core.Logic.{inl, inr, ⊎_elim}
use Rattle.std.specs.Prelude.{None}
use Prim.Native.Nat.{ℕ, zero, suc, ◌+◌, ◌*◌, ◌≤◌, ◌<◌}
use native.Mathlib.Omega.{arith}
use lib.ListN.{length, get_or, replicate, length-replicate}
use Rattle.lists.specs.Lists.{keep_if, every, interval, put, first, linked}
use Rattle.lists.proofs.Places.{zeros}
use Rattle.words.specs.Labels.{good, refused}
use Rattle.words.specs.Weights.{times, is_zero}
use Rattle.words.specs.Matches.{labelled, sorted_matches, outputs}
use Rattle.words.specs.Machines.{state_count, tr_count, start_word, side_mark, acceptor_mark, state_word, tr_word, first_ok, next_ok, first_of, next_of, list_by, list_from, list_of, no_fall, sorted, state_ok, tr_ok, acceptor, marks_ok, size_up_to, well_formed_up_to}
use Rattle.words.specs.Ignored.{heard, ignored_ok}
use Rattle.words.specs.Sides.{only, side_of, direction_at}
use Rattle.words.specs.Filters.{none_at, all_at}
use Rattle.words.specs.Sigmas.{has, sigma_trs, sigma_matches, lookup, given}
use Rattle.words.specs.Steps.{Composition, walk, kept_along, kept_at, step_of, steps_at, final_at, same_triple}
use Rattle.words.specs.Settings.{settings_ok, composition_of}
use Rattle.words.proofs.CheckedLaws.{good≢refused}
use Rattle.calls.specs.Store.{Memory, tr_room, triple_at, target_at, tr_next_at, slot, head_of, append, add_with, chain_with, expanded_with, field_of, find_with, first_with, mark_with, next_with, room_with, state_room_with, tr_room_with}
use Rattle.calls.specs.Checks.{Session, store_of, side_for, entered, entered_at_with, entered_with, side_for_with}
use Rattle.calls.specs.Calls.{expand_with, expansion_with, final_weight_with, reach_with, store_step_with, store_steps_with}
use Rattle.calls.specs.Sequences.{World, expand, final_weight, refusal, weight, answered, call_of, call_with}
use Rattle.calls.specs.Listing.{settings_of}
use Rattle.calls.proofs.StarCases.{plain, session, list_part}
use Rattle.calls.proofs.StoreForms.{Form, StateForm}
use Rattle.calls.proofs.ExpandKept.{is_entered}
use Rattle.layouts.specs.Layout.{five}
use Rattle.layouts.specs.SameRecords.{new_states, whole_trs, SameState, SameRecords}
use Rattle.layouts.proofs.SameChecks.{Pair, entered_two, enters_old}
use Rattle.layouts.proofs.Cases.{both, small}

abbrev c : Composition
c = composition_of (settings_of (plain 0 0)) both (only outputs)

rule : side_for (settings_of (plain 0 0)) both ≡ good (only outputs)
unfolding side_for_with settings_ok well_formed_up_to size_up_to state_ok tr_ok marks_ok acceptor every interval side_of sorted no_fall side_mark acceptor_mark state_count tr_count start_word state_word tr_word first_ok next_ok first_of next_of list_by list_from list_of heard has ignored_ok
rule = refl

module _ (trs : List ℕ) (size : length trs ≡ 327680) (zeros : (i : ℕ) → get_or trs i 0 ≡ 0) where
  abbrev memory : List ℕ → Memory
  memory states = record { heads = 1 ∷ []; states = states; trs = trs }

  abbrev holding : ℕ → Session
  holding used = session (plain 0 0) 1 1 used

  -- the new store is in form, with as many records in use as the slice holds
  form : (used : ℕ) → used ≤ 65536 → Form 3 3 (store_of (holding used) (memory (replicate 12 0))) used
  unfolding state_room_with tr_room_with room_with triple_at expanded_with first_with next_with field_of target_at tr_next_at
  form used few = record {
    states_fit = omega arith;
    trs_fit = omega (arith, size, few);
    head = head;
    headed = λ h. omega arith;
    state = state;
    tr = λ i h. record { target = rw (zeros (5 * i + 3)) (omega arith); next = inl (zeros (5 * i + 4)) };
  }
    where
      head : (h : ℕ) → get_or (1 ∷ []) h 0 ≤ 1
      head zero = omega arith
      head (suc h) = omega arith

      state : (n : ℕ) → n < 1 → StateForm 3 3 (replicate 12 0) used n
      state zero h = record {
        triple = record { s1 = omega arith; s2 = omega arith; f = omega arith };
        expanded = omega arith;
        unexpanded = inr refl;
        first = omega arith;
        next = omega arith;
      }
      state (suc n) h = absurd (omega arith)

  enters : (used : ℕ) → used ≤ 65536 → entered both (holding used) (memory (replicate 12 0)) ≡ good c
  unfolding state_count
  enters used few = is_entered both (holding used) (memory (replicate 12 0)) c (record { side = only outputs; rule = rule; same = refl; composition = refl; form = form used few })

  abbrev old : ℕ → World
  old used = record { session = holding used; memory = memory (replicate 10 0) }

  abbrev new : ℕ → World
  new used = record { session = holding used; memory = memory (replicate 12 0) }

  same : (used : ℕ) → SameRecords (old used).memory (new used).memory (holding used).used
  unfolding expanded_with first_with next_with field_of triple_at
  same used = record { heads = refl; states = refl; trs = refl; state = λ n h w. state n h; word = λ i h w. refl }
    where
      state : (n : ℕ) → n < 1 → SameState (replicate 10 0) (replicate 12 0) n
      state zero h = record { triple = refl; expanded = refl; first = refl; next = refl }
      state (suc n) h = absurd (omega arith)

  pair : (used : ℕ) → Pair (new_states (new used).memory) (whole_trs (new used).memory) (old used).memory (new used).memory (holding used).used
  pair used = record { same = same used; states = refl; trs = refl }

  -- with all 65536 in use the old checks refuse by 8
  old_eight : entered_with five both (holding 65536) (old 65536).memory ≡ refused 8
  old_eight =
      ⊎_elim (λ x. absurd (good≢refused (sym (enters 65536 (omega arith)) ∙ x.2))) (⊎_elim (λ x. absurd (omega (arith, x.3.1))) (λ x. x.0))
      (entered_two both small (holding 65536) (old 65536).memory (new 65536).memory (pair 65536))

  pub eight_moves :
      ((call_with five both (old 65536) (final_weight 0)).reply ≡ answered (refusal 8) (holding 65536))
      × ((call_of both (new 65536) (final_weight 0)).reply ≡ answered (weight None) (holding 65536))
  unfolding call_with final_weight_with entered_at_with final_at times is_zero state_word state_count triple_at field_of
  eight_moves = (rw old_eight, rw (enters 65536 (omega arith)))

  old_room : tr_room_with five (old 65535).memory ≡ 65535
  unfolding tr_room_with room_with
  old_room = omega (arith, size)

  new_room : tr_room (new 65535).memory ≡ 65536
  unfolding tr_room_with room_with
  new_room = omega (arith, size)

  -- with 65535 in use the old expansion lacks the record that the new one writes
  pub thirteen_moves :
      ((call_with five both (old 65535) (expand 0)).reply ≡ answered (refusal 13) (holding 65535))
      × ((call_of both (new 65535) (expand 0)).reply ≡ answered (list_part 65536 1) (session (plain 0 0) 1 2 65536))
  unfolding call_with expand_with entered_at_with expansion_with store_steps_with store_step_with expanded_with field_of reach_with find_with first linked chain_with same_triple add_with append mark_with slot head_of put next_with triple_at state_room_with room_with steps_at step_of given kept_at kept_along flat_map walk lookup has sigma_trs sigma_matches labelled keep_if sorted_matches none_at all_at every direction_at times is_zero state_count tr_count state_word tr_word first_ok next_ok first_of next_of list_by list_from list_of heard
  thirteen_moves =
      let e = enters 65535 (omega arith) in
      (rw (enters_old both small (holding 65535) (old 65535).memory (new 65535).memory (pair 65535) c e (omega arith, omega arith), old_room), rw (e, new_room))

-- there are such words
pub all_zero : (trs : List ℕ) × (length trs ≡ 327680) × ((i : ℕ) → get_or trs i 0 ≡ 0)
all_zero = (replicate 327680 0, length-replicate {A = ℕ} 327680 0, zeros 327680)
