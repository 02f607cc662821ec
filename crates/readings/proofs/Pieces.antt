-- Pieces of a run, and runs: by one split at a state, and induction on how many states a piece may pass.
use mathlib.Core.Path.{◌≡◌, refl, sym, ◌∙◌, ap, subst}
use mathlib.Core.Bool.{Bool, true, false}
use mathlib.Core.Logic.{◌⊎◌, inl, inr, ⊎_elim}
use Prim.Native.Nat.{ℕ, zero, suc, ◌+◌, ◌-◌, ◌≤◌, ◌<◌}
use native.Mathlib.Nat.{sub-zero}
use native.Mathlib.Omega.{arith}
use native.Mathlib.Decide.{ℕ_discrete}
use lib.Dec.{leb}
use borrow.Author.Tests.{leb-true, leb-false}
use Rattle.lists.specs.Lists.{interval}
use Rattle.words.specs.Labels.{Checked, good, refused}
use Rattle.words.specs.Steps.{Composition}
use Rattle.words.specs.Settings.{Lent}
use Rattle.words.proofs.CheckedLaws.{good≢refused, refused_is}
use Rattle.calls.specs.Store.{state_room, Part}
use Rattle.calls.specs.Calls.{Outcome, onward, run_by, run_from, run_from_with, run_with}
use Rattle.calls.specs.Sequences.{World, after_with, call_with}
use Rattle.calls.specs.Owned.{stop_by, stop_from}
use Rattle.calls.proofs.ExpandKept.{entered_is}
use Rattle.calls.proofs.ExpandCases.{stayed, expand_late}
use Rattle.readings.specs.Worlds.{world_of, expand_in, run_in, Accepted, UsedState, Expanded}
use Rattle.readings.specs.Answers.{RunIs}
use Rattle.readings.specs.Owned.{piece_in, next_in, up_to, PieceIs}
use Rattle.readings.proofs.Grows.{KeptWorld, room_grows}
use Rattle.readings.proofs.CallsKept.{Onto, onto_none, onto_on, expand_onto, expand_lists, expand_only, expand_stays}

-- the expansions from n on before n are none; those before a later state are that of n, then those from the next state on
up_none : (l : Lent) (w : World) (n : ℕ) → up_to l w n n ≡ w
unfolding after_with interval
up_none l w n = let z : n - n ≡ 0 = omega arith in rw z

up_on : (l : Lent) (w : World) (n j : ℕ) → n < j → up_to l w n j ≡ up_to l (world_of (expand_in l w n)) (suc n) j
unfolding after_with call_with interval
up_on l w n j h = let z : j - n ≡ suc (j - suc n) = omega arith in rw z

module _ (l : Lent) (c : Composition) where
  module _ (w : World) (h : KeptWorld l c w) (n : ℕ) where
    abbrev o : Outcome Part
    o = expand_in l w n

    -- The pieces from state n on that may pass a state, each with the state with which the next one goes on. P holds of them where it holds in each case: n is not found, or its
    -- expansion is refused, and nothing is done; or it is accepted, and they are those from the next state on in the world that it leaves, which may pass one state less.
    by_turn : (P : (ℕ → Outcome (Unit {0})) → (ℕ → ℕ) → Type 0)
        → (w.session.used.states ≤ n → P (λ k. stayed w.session w.memory (good tt)) (λ k. n))
        → (UsedState w n → (j : ℕ) → o.answer ≡ refused j → P (λ k. stayed w.session w.memory (refused j)) (λ k. n))
        → (UsedState w n → (p : Part) → o.answer ≡ good p → P (piece_in l (world_of o) (suc n)) (next_in l (world_of o) (suc n)))
        → P (λ k. piece_in l w n (suc k)) (λ k. next_in l w n (suc k))
    unfolding run_from_with stop_from
    by_turn P late stopped on = go (leb w.session.used.states n) refl
      where
        by_answer : (a : Checked Part) → UsedState w n → o.answer ≡ a → P (λ k. onward a o.session o.memory (run_from l k (suc n))) (λ k. stop_by o a n (stop_from l k (suc n)))
        by_answer (good p) i e = on i p e
        by_answer (refused j) i e = subst (λ (v : World). P (λ k. stayed v.session v.memory (refused j)) (λ k. n)) (sym (expand_stays l c w h n j e)) (stopped i j e)

        go : (b : Bool) → leb w.session.used.states n ≡ b
            → P (λ k. run_by b w.session w.memory o (run_from l k (suc n))) (λ k. stop_by o o.answer n (stop_from l k (suc n)))
        go true e =
            let z = leb-true w.session.used.states n e in
            subst (λ (a : Checked Part). P (λ k. stayed w.session w.memory (good tt)) (λ k. stop_by o a n (stop_from l k (suc n))))
            (sym (ap (λ (q : Outcome Part). q.answer) (expand_late l w.session w.memory c h.sound.enters n z))) (late z)
        go false e = by_answer o.answer (leb-false _ _ e) refl

  -- a piece that may pass `most` states, and the state with which the next one goes on: it is the expansions before that state, and no others became expanded
  record Run (from most : ℕ) (w : World) (o : Outcome (Unit {0})) (next : ℕ) : Type 0 where
    pub onto : Onto l c w (world_of o)
    pub low : from ≤ next
    pub high : next ≤ from + most
    pub passes : (j : ℕ) → from ≤ j → j < next → Accepted (expand_in l (up_to l w from j) j)
    pub leaves : world_of o ≡ up_to l w from next
    pub expanded : (j : ℕ) → from ≤ j → j < next → Expanded (world_of o) j
    pub only : (j : ℕ) → Expanded (world_of o) j → Expanded w j ⊎ ((from ≤ j) × (j < next))
    pub ends : Accepted o → (next ≡ from + most) ⊎ (o.session.used.states ≤ next)
    pub stops : (k : ℕ) → o.answer ≡ refused k → UsedState (world_of o) next × ((expand_in l (world_of o) next).answer ≡ refused k)

  -- no state is passed
  run_none : (n most : ℕ) (w : World) → KeptWorld l c w → (a : Checked (Unit {0}))
      → (Accepted (stayed w.session w.memory a) → (n ≡ n + most) ⊎ (w.session.used.states ≤ n))
      → ((k : ℕ) → a ≡ refused k → UsedState w n × ((expand_in l w n).answer ≡ refused k)) → Run n most w (stayed w.session w.memory a) n
  run_none n most w h a ends stops = record {
    onto = onto_none l c w h;
    low = omega arith;
    high = omega arith;
    passes = λ j i k. absurd (omega arith);
    leaves = sym (up_none l w n);
    expanded = λ j i k. absurd (omega arith);
    only = λ j x. inl x;
    ends = ends;
    stops = stops;
  }

  -- state n is passed
  run_on : (w : World) → KeptWorld l c w → (n most : ℕ) (p : Part) → (expand_in l w n).answer ≡ good p → (r : Outcome (Unit {0})) (next : ℕ)
      → Run (suc n) most (world_of (expand_in l w n)) r next → Run n (suc most) w r next
  run_on w h n most p e r next q =
      record {
        onto = onto_on l c w v (world_of r) (expand_onto l c w h n) q.onto;
        low = omega arith;
        high = omega arith;
        passes = λ j i k. passes j i k (ℕ_discrete n j);
        leaves = q.leaves ∙ sym (up_on l w n next (omega arith));
        expanded = λ j i k. expanded j i k (ℕ_discrete n j);
        only = λ j x. ⊎_elim (λ y. ⊎_elim inl (λ z. inr (omega (arith, z.0), omega (arith, z.0))) (expand_only l c w h n j y)) (λ y. inr (omega (arith, y.0), y.1)) (q.only j x);
        ends = λ a. ⊎_elim (λ z. inl (omega arith)) inr (q.ends a);
        stops = q.stops;
      }
    where
      v : World
      v = world_of (expand_in l w n)

      passes : (j : ℕ) → n ≤ j → j < next → Dec (n ≡ j) → Accepted (expand_in l (up_to l w n j) j)
      passes j i k (yes z) = subst (λ x. Accepted (expand_in l (up_to l w n x) x)) z (rw (up_none l w n) (p, e))
      passes j i k (no z) = rw (up_on l w n j (omega arith)) (q.passes j (omega arith) k)

      expanded : (j : ℕ) → n ≤ j → j < next → Dec (n ≡ j) → Expanded (world_of r) j
      expanded j i k (yes z) = subst (Expanded (world_of r)) z (q.onto.grows.expanded n (expand_lists l c w h n p e).0)
      expanded j i k (no z) = q.expanded j (omega arith) k

  -- by induction on how many states it may pass
  run_from_lem : (k n : ℕ) (w : World) → KeptWorld l c w → Run n k w (piece_in l w n k) (next_in l w n k)
  unfolding run_from_with stop_from
  run_from_lem zero n w h = run_none n 0 w h (good tt) (λ a. inl (omega arith)) (λ k e. absurd (good≢refused e))
  run_from_lem (suc k) n w h =
      by_turn w h n (λ f g. Run n (suc k) w (f k) (g k))
      (λ i. run_none n (suc k) w h (good tt) (λ a. inr i) (λ j e. absurd (good≢refused e)))
      (λ i j e. run_none n (suc k) w h (refused j) (λ a. absurd (good≢refused (sym a.1))) (λ q z. (i, e ∙ ap refused (refused_is z))))
      (λ i p e. run_on w h n k p e _ _ (run_from_lem k (suc n) (world_of (expand_in l w n)) (expand_onto l c w h n).kept))

  pub piece_is : (w : World) → KeptWorld l c w → (n k : ℕ) → PieceIs l w n k
  piece_is w h n k = let r = run_from_lem k n w h in record { from = r.low; most = r.high; passes = r.passes; leaves = r.leaves; ends = r.ends; stops = r.stops }

  -- where state n is not found, nothing is done
  piece_late : (k n : ℕ) (w : World) → KeptWorld l c w → w.session.used.states ≤ n → (stayed w.session w.memory (good tt) ≡ piece_in l w n k) × (n ≡ next_in l w n k)
  unfolding run_from_with stop_from
  piece_late zero n w h i = (refl, refl)
  piece_late (suc k) n w h i =
      by_turn w h n (λ f g. (stayed w.session w.memory (good tt) ≡ f k) × (n ≡ g k)) (λ z. (refl, refl)) (λ z j e. absurd (omega arith)) (λ z p e. absurd (omega arith))

  -- A piece after an accepted one goes on as one piece would have: either the first passed all the states that it may, or none was left, and then neither does more.
  pub piece_joins : (j n : ℕ) (w : World) → KeptWorld l c w → (k : ℕ) → Accepted (piece_in l w n j)
      → let v = world_of (piece_in l w n j) in
      let i = next_in l w n j in
      (piece_in l w n (j + k) ≡ piece_in l v i k) × (next_in l w n (j + k) ≡ next_in l v i k)
  unfolding run_from_with stop_from
  piece_joins zero n w h k = let z : 0 + k ≡ k = omega arith in rw z (λ a. (refl, refl))
  piece_joins (suc j) n w h k =
      let z : suc j + k ≡ suc (j + k) = omega arith in
      rw z
      (by_turn w h n
      (λ f g. Accepted (f j) → (f (j + k) ≡ piece_in l (world_of (f j)) (g j) k) × (g (j + k) ≡ next_in l (world_of (f j)) (g j) k))
      (λ i a. piece_late k n w h i)
      (λ i q e a. absurd (good≢refused (sym a.1)))
      (λ i p e. piece_joins j (suc n) (world_of (expand_in l w n)) (expand_onto l c w h n).kept k))

  -- a run is a piece, since the checks pass
  run_piece : (w : World) → KeptWorld l c w → run_in l w ≡ piece_in l w 0 (state_room w.memory)
  unfolding run_with
  run_piece w h = rw h.sound.enters

  -- no more states are found than there is room for, so that a piece of so many passes no more where it may
  piece_more : (j k n : ℕ) (w : World) → KeptWorld l c w → state_room w.memory ≤ j + n → piece_in l w n (j + k) ≡ piece_in l w n j
  unfolding run_from_with
  piece_more zero k n w h room =
      let z : 0 + k ≡ k = omega arith in
      let fits = (entered_is l w.session w.memory c h.sound.enters).form.states_fit in
      rw z (sym (piece_late k n w h (omega (arith, fits, room))).0)
  piece_more (suc j) k n w h room =
      let z : suc j + k ≡ suc (j + k) = omega arith in
      rw z
      (by_turn w h n (λ f g. f (j + k) ≡ f j) (λ i. refl) (λ i q e. refl)
      (λ i p e.
      let g = expand_onto l c w h n in
      piece_more j k (suc n) (world_of (expand_in l w n)) g.kept (omega (arith, room_grows w (world_of (expand_in l w n)) g.grows, room))))

  pub run_whole : (w : World) → KeptWorld l c w → (k : ℕ) → state_room w.memory ≤ k → run_in l w ≡ piece_in l w 0 k
  run_whole w h k i =
      let room = state_room w.memory in
      let z : room + (k - room) ≡ k = omega (arith, i) in
      run_piece w h ∙ sym (subst (λ j. piece_in l w 0 j ≡ piece_in l w 0 room) z (piece_more room (k - room) 0 w h (omega arith)))

  -- a run from state 0 on
  pub record Ran (w : World) : Type 0 where
    pub onto : Onto l c w (world_of (run_in l w))
    pub is : RunIs l w
    pub expanded : (k : ℕ) → k < is.stop → Expanded (world_of (run_in l w)) k
    pub only : (j : ℕ) → Expanded (world_of (run_in l w)) j → Expanded w j ⊎ (j < is.stop)

  pub run_onto : (w : World) → KeptWorld l c w → Ran w
  run_onto w h =
      record {
        onto = r.onto;
        is = record { stop = stop; passes = λ k i. rw sub-zero at (r.passes k (omega arith) i); leaves = rw sub-zero at r.leaves; ends = λ a. all (r.ends a); stops = r.stops };
        expanded = λ k i. r.expanded k (omega arith) i;
        only = λ j x. ⊎_elim inl (λ z. inr z.1) (r.only j x);
      }
    where
      stop : ℕ
      stop = next_in l w 0 (state_room w.memory)

      v : World
      v = world_of (run_in l w)

      r : Run 0 (state_room w.memory) w (run_in l w) stop
      r = subst (λ o. Run 0 (state_room w.memory) w o stop) (sym (run_piece w h)) (run_from_lem (state_room w.memory) 0 w h)

      -- what is expanded is found
      found : (x : ℕ) → ((j : ℕ) → j < x → Expanded v j) → x ≤ v.session.used.states
      found zero f = omega arith
      found (suc x) f = (f x (omega arith)).0

      -- no more states are found than there is room for
      all : (stop ≡ 0 + state_room w.memory) ⊎ (v.session.used.states ≤ stop) → v.session.used.states ≡ stop
      all x =
          let low = found stop (λ j i. r.expanded j (omega arith) i) in
          let fits = (entered_is l v.session v.memory c r.onto.kept.sound.enters).form.states_fit in
          let room = room_grows w v r.onto.grows in
          ⊎_elim (λ z. omega arith) (λ z. omega arith) x
