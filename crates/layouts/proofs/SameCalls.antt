-- Each call in both layouts, on one session and memories with the same records: the same, or the old one is refused by 13 or by 8.
use mathlib.Core.Path.{◌≡◌, refl, ◌∙◌, ap, ap₂}
use mathlib.Core.Bool.{cond}
use mathlib.Core.List.{List, []}
use mathlib.Core.Logic.{◌⊎◌, inl, inr, ⊎_elim}
use Rattle.std.specs.Prelude.{Option}
use Prim.Native.Nat.{ℕ, ◌<◌}
use native.Mathlib.Omega.{arith}
use native.Mathlib.Decide.{dec_lt}
use lib.Dec.{eqb}
use borrow.Author.Tests.{le-leb, lt-leb}
use Rattle.words.specs.Labels.{Checked, good, refused, and_then}
use Rattle.words.specs.Machines.{state_count}
use Rattle.words.specs.Steps.{Composition, final_at}
use Rattle.words.specs.Settings.{Lent}
use Rattle.calls.specs.Store.{Memory, Store, state_room, triple_at, Part, part_at, part_with, state_room_with}
use Rattle.calls.specs.Checks.{Session, store_of, entered, entered_at, entered_at_with, entered_with}
use Rattle.calls.specs.Calls.{Outcome, settle, unchanged, expand_of, final_weight_of, run_of, words_of_part, place_of, records_of, records_place, expand_with, final_weight_with, records_place_with, records_with, run_with}
use Rattle.calls.proofs.StoreForms.{Form}
use Rattle.calls.proofs.ExpandKept.{entered_is}
use Rattle.calls.proofs.Parts.{part_within}
use Rattle.layouts.specs.Layout.{five}
use Rattle.layouts.specs.SameRecords.{SameState, Small, Above}
use Rattle.layouts.proofs.SameStores.{Rooms, rooms, whole_trs_lem, state_two, part_two, words_two}
use Rattle.layouts.proofs.SameSteps.{Wide}
use Rattle.layouts.proofs.SameChecks.{Pair, Entered2, entered_two}
use Rattle.layouts.proofs.SameExpansions.{Expand2, expand_ready}
use Rattle.layouts.proofs.SameRuns.{Agree, run_ready}

-- the old call is refused by 13, or by 8 where more are used than its limit
pub record Moves {A : Type 0} (K J : ℕ) (s : Session) (x : Outcome A) : Type 0 where
  pub wide : Wide K J
  pub how : (x.answer ≡ refused 13) ⊎ (Above s.used × (x.answer ≡ refused 8) × (x.session ≡ s))

abbrev pub Call2 : {A : Type 0} → ℕ → ℕ → Session → Outcome A → Outcome A → Type 0
Call2 K J s x y = Agree K J x y ⊎ Moves K J s x

module _ {K J : ℕ} (l : Lent) (small : Small l) (s : Session) (o m : Memory) (pair : Pair K J o m s.used) where
  abbrev d : Store
  d = store_of s m

  enters : Entered2 K J s.used (entered_with five l s o) (entered l s m)
  enters = entered_two l small s o m pair

  -- a call that changes nothing, with one answer in both
  stays : {A : Type 0} (x y : Outcome A) (a : Checked A) → x ≡ record { answer = a; session = s; memory = o } → y ≡ record { answer = a; session = s; memory = m } → Agree K J x y
  stays x y a p q = rw (p, q) (record { answer = refl; session = refl; pair = pair })

  eight : {A : Type 0} (x : Outcome A) → Wide K J → Above s.used → x ≡ record { answer = refused 8; session = s; memory = o } → Moves K J s x
  eight x w a p = rw p (record { wide = w; how = inr (a, refl, refl) })

  pub expand_two : (n : ℕ) → Call2 K J s (expand_with five l s o n) (expand_of l s m n)
  unfolding expand_with entered_at_with
  expand_two n = go enters
    where
      on : (c : Composition) → Expand2 K J l c s o m (expand_with five l s o n) (expand_of l s m n) → Call2 K J s (expand_with five l s o n) (expand_of l s m n)
      on c (inl (x, w)) = inr (record { wide = w; how = inl (ap (λ (q : Outcome Part). q.answer) x) })
      on c (inr (inl (k, x, y))) = inl (stays _ _ (refused k) x y)
      on c (inr (inr (p, t, o', m', x, y, r))) = inl (rw (x, y) (record { answer = refl; session = refl; pair = r.pair }))

      go : Entered2 K J s.used (entered_with five l s o) (entered l s m) → Call2 K J s (expand_with five l s o n) (expand_of l s m n)
      go (inl (k, x, y)) = inl (stays _ _ (refused k) (rw x) (rw y))
      go (inr (inl (c, x, y, low))) = on c (expand_ready l small c s o m (record { enters = y; pair = pair; low = low }) n)
      go (inr (inr (x, w, a))) = inr (eight _ w a (rw x))

  pub run_two : Call2 K J s (run_with five l s o) (run_of l s m)
  unfolding run_with
  run_two = go enters
    where
      r : Rooms o m
      r = rooms o d pair.same

      go : Entered2 K J s.used (entered_with five l s o) (entered l s m) → Call2 K J s (run_with five l s o) (run_of l s m)
      go (inl (k, x, y)) = inl (stays _ _ (refused k) (rw x) (rw y))
      go (inr (inl (c, x, y, low))) =
          rw (x, y)
          (⊎_elim (λ z. inr (record { wide = z.1; how = inl z.0 })) inl
          (run_ready l small c (state_room_with five o) (state_room m) 0 s o m (record { enters = y; pair = pair; low = low })
          (omega (arith, r.old_states_lem, pair.states)) (omega (arith, r.new_states_lem, pair.states))))
      go (inr (inr (x, w, a))) = inr (eight _ w a (rw x))

  -- state n, where the checks 1 to 8 pass
  module _ (c : Composition) (enter : entered l s m ≡ good c) (n : ℕ) (found : n < s.used.states) where
    form : Form (state_count l.m1) (state_count l.m2) d s.used.trs
    form = (entered_is l s m c enter).form

    same_state : SameState o.states m.states n
    same_state = state_two o d pair.same form n found

    same_words : words_of_part o.trs (part_with five (store_of s o) n) ≡ words_of_part m.trs (part_at d n)
    same_words = words_two o d pair.same form n found

    -- the part begins within both slices
    same_place : place_of o.trs (part_with five (store_of s o) n) ≡ place_of m.trs (part_at d n)
    same_place =
        let w = part_within d d form (omega arith) n found in
        let t = whole_trs_lem o d pair.same form in
        ap (place_of o.trs) (part_two o d pair.same form n found) ∙ omega (arith, w, t, pair.same.trs)

  -- the checks 1 to 9 in both
  abbrev Found2 : ℕ → Type 0
  Found2 n =
      ((k : ℕ) × (entered_at_with five l s o n ≡ refused k) × (entered_at l s m n ≡ refused k))
      ⊎ (((c : Composition) × (entered_at_with five l s o n ≡ good c) × (entered_at l s m n ≡ good c) × (entered l s m ≡ good c) × (n < s.used.states))
      ⊎ ((entered_at_with five l s o n ≡ refused 8) × Wide K J × Above s.used))

  found_two : (n : ℕ) → Found2 n
  unfolding entered_at_with
  found_two n = go enters (dec_lt n s.used.states)
    where
      go : Entered2 K J s.used (entered_with five l s o) (entered l s m) → Dec (n < s.used.states) → Found2 n
      go (inl (k, x, y)) i = inl (k, rw x, rw y)
      go (inr (inl (c, x, y, low))) (yes i) = inr (inl (c, rw (x, lt-leb s.used.states n i), rw (y, lt-leb s.used.states n i), y, i))
      go (inr (inl (c, x, y, low))) (no i) = inl (9, rw (x, le-leb s.used.states n (omega arith)), rw (y, le-leb s.used.states n (omega arith)))
      go (inr (inr (x, w, a))) i = inr (inr (rw x, w, a))

  pub final_two : (n : ℕ) → Call2 K J s (final_weight_with five l s o n) (final_weight_of l s m n)
  unfolding final_weight_with
  final_two n = go (found_two n)
    where
      on : (a : Checked (Option ℕ)) → Agree K J (settle s o (and_then a (λ w. good (unchanged s o w)))) (settle s m (and_then a (λ w. good (unchanged s m w))))
      on (good w) = stays _ _ (good w) refl refl
      on (refused k) = stays _ _ (refused k) refl refl

      go : Found2 n → Call2 K J s (final_weight_with five l s o n) (final_weight_of l s m n)
      go (inl (k, x, y)) = inl (stays _ _ (refused k) (rw x) (rw y))
      go (inr (inl (c, x, y, e, i))) = inl (rw (x, y, (same_state c e n i).triple) (on (final_at c (triple_at m.states n))))
      go (inr (inr (x, w, a))) = inr (eight _ w a (rw x))

  -- handing back: what is handed, and where it lies
  pub records_two : (n : ℕ) → (records_with five l s o n ≡ records_of l s m n) ⊎ ((records_with five l s o n ≡ []) × Wide K J × Above s.used)
  unfolding records_with
  records_two n = go (found_two n)
    where
      go : Found2 n → (records_with five l s o n ≡ records_of l s m n) ⊎ ((records_with five l s o n ≡ []) × Wide K J × Above s.used)
      go (inl (k, x, y)) = inl (rw (x, y))
      go (inr (inl (c, x, y, e, i))) = inl (rw (x, y) (ap₂ (λ (b : ℕ) (q : List ℕ). cond (eqb b 1) q []) (same_state c e n i).expanded (same_words c e n i)))
      go (inr (inr (x, w, a))) = inr (rw x, w, a)

  pub place_two : (n : ℕ) → (records_place_with five l s o n ≡ records_place l s m n) ⊎ (Wide K J × Above s.used)
  unfolding records_place_with
  place_two n = go (found_two n)
    where
      go : Found2 n → (records_place_with five l s o n ≡ records_place l s m n) ⊎ (Wide K J × Above s.used)
      go (inl (k, x, y)) = inl (rw (x, y))
      go (inr (inl (c, x, y, e, i))) = inl (rw (x, y) (ap₂ (λ (b q : ℕ). cond (eqb b 1) q 0) (same_state c e n i).expanded (same_place c e n i)))
      go (inr (inr (x, w, a))) = inr (w, a)
