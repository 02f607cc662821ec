-- Why storing a list of steps is refused: a refusal stands in the list, or it is 13 and a record is lacking for the steps up to some place: of transitions, or of states even if each of
-- them led to a new one.
use mathlib.Core.Path.{◌≡◌, refl, sym, ap, subst}
use mathlib.Core.Bool.{Bool, true, false}
use mathlib.Core.List.Memᴰ.{head as here}
use mathlib.Core.List.Memᴰ.{tail as there}
use mathlib.Core.List.{List, [], ◌∷◌, ◌++◌, map, Memᴰ as In}
use mathlib.Core.Logic.{◌⊎◌, inl, inr, ⊎_elim}
use Rattle.std.specs.Prelude.{Option, None, Some}
use Prim.Native.Nat.{ℕ, ◌+◌, ◌<◌, ◌≤◌}
use native.Mathlib.Omega.{arith}
use lib.Dec.{leb}
use lib.ListN.{length}
use borrow.Author.Tests.{leb-true}
use Rattle.words.specs.Labels.{Checked, good, refused, refuse_if}
use Rattle.words.specs.Sides.{non_empty}
use Rattle.words.specs.Steps.{Triple, Step}
use Rattle.words.proofs.CheckedLaws.{good_is, refused_is, good≢refused, past_check, past_then, stop_then}
use Rattle.calls.specs.Store.{Store, state_size, tr_size, state_room, tr_room, find, append, add_with, state_room_with, tr_room_with}
use Rattle.calls.specs.Calls.{Reached, reached_by, reach, store_step, next_for, store_steps, reach_with, store_step_with, store_steps_with}
use Rattle.calls.proofs.RecordLaws.{room_same}
use Rattle.calls.proofs.StepsStay.{step_stays}

-- room is short of n more records of one sort
abbrev pub Short : Store → ℕ → Type 0
Short d n = (tr_room d.memory < d.used.trs + n) ⊎ (state_room d.memory < d.used.states + n)

-- a check that stood
stood : {A : Type 0} (b : Bool) (n k : ℕ) (rest : Checked A) → refuse_if b n rest ≡ refused k → ((b ≡ true) × (k ≡ n)) ⊎ (rest ≡ refused k)
stood true n k rest e = inl (refl, refused_is (sym e))
stood false n k rest e = inr e

reach_lacks : (d : Store) (t : Triple) (o : Option ℕ) (k : ℕ) → reached_by d t o ≡ refused k → (k ≡ 13) × (state_room d.memory ≤ d.used.states)
reach_lacks d t (Some n) k e = absurd (good≢refused e)
reach_lacks d t None k e =
    ⊎_elim (λ h. (h.1, leb-true _ _ h.0)) (λ h. absurd (good≢refused h)) (stood (leb (state_room d.memory) d.used.states) 13 k _ e)

step_lacks : (d : Store) (next : ℕ) (st : Step) (k : ℕ) → store_step d next st ≡ refused k → (k ≡ 13) × Short d 1
unfolding store_step_with reach_with
step_lacks d next st k e =
    ⊎_elim (λ h. let b : tr_room d.memory ≤ d.used.trs = leb-true _ _ h.0 in (h.1, inl (omega (arith, b))))
    (λ h.
    ⊎_elim (λ x. let r = reach_lacks d st.to (find d st.to) k x in (r.0, inr (omega (arith, r.1)))) (λ x. absurd (good≢refused x.2))
    (stop_then (reached_by d st.to (find d st.to)) _ k h))
    (stood (leb (tr_room d.memory) d.used.trs) 13 k _ e)

-- a stored step takes one transition record and at most one state record
reach_takes : (d : Store) (t : Triple) (o : Option ℕ) (r : Reached) → reached_by d t o ≡ good r → (r.store.used.trs ≡ d.used.trs) × (r.store.used.states ≤ d.used.states + 1)
unfolding add_with
reach_takes d t (Some n) r e = subst (λ (q : Reached). (q.store.used.trs ≡ d.used.trs) × (q.store.used.states ≤ d.used.states + 1)) (good_is e) (refl, omega arith)
reach_takes d t None r e =
    let c = past_check (leb (state_room d.memory) d.used.states) 13 _ r e in
    subst (λ (q : Reached). (q.store.used.trs ≡ d.used.trs) × (q.store.used.states ≤ d.used.states + 1)) (good_is c.1) (refl, omega arith)

step_takes : (d : Store) (next : ℕ) (st : Step) (e : Store) → store_step d next st ≡ good e → (e.used.trs ≡ d.used.trs + 1) × (e.used.states ≤ d.used.states + 1)
unfolding store_step_with reach_with append
step_takes d next st e g =
    let c = past_check (leb (tr_room d.memory) d.used.trs) 13 _ e g in
    let r = past_then (reach d st.to) _ e c.1 in
    let t = reach_takes d st.to (find d st.to) r.0 r.1 in
    subst (λ (f : Store). (f.used.trs ≡ d.used.trs + 1) × (f.used.states ≤ d.used.states + 1)) (good_is r.2) (omega (arith, t.0), t.1)

-- what is short after a step was short before it, for one more
short_before : (d e : Store) (next n : ℕ) (st : Step) → store_step d next st ≡ good e → Short e n → Short d (n + 1)
unfolding tr_room_with state_room_with
short_before d e next n st g h =
    let t = step_takes d next st e g in
    let s = step_stays d next st e g in
    let a : tr_room e.memory ≡ tr_room d.memory = room_same tr_size d.memory.trs e.memory.trs s.trs_length in
    let b : state_room e.memory ≡ state_room d.memory = room_same state_size d.memory.states e.memory.states s.states_length in
    ⊎_elim (λ x. inl (omega (arith, x, a, t.0))) (λ x. inr (omega (arith, x, b, t.1))) h

-- the steps up to some place, for which room is short
abbrev pub Lacking : Store → List (Checked Step) → Type 0
Lacking d l = (steps : List Step) × (later : List (Checked Step)) × (l ≡ map good steps ++ later) × Short d (length steps)

pub steps_lack : (d : Store) (l : List (Checked Step)) (k : ℕ) → store_steps d l ≡ refused k → In (refused k) l ⊎ ((k ≡ 13) × Lacking d l)
unfolding store_steps_with
steps_lack d [] k e = absurd (good≢refused e)
steps_lack d (refused n ∷ others) k e = inl (here (ap refused (refused_is (sym e))))
steps_lack d (good st ∷ others) k e =
    let next = next_for d (non_empty others) in
    ⊎_elim (λ x. let r = step_lacks d next st k x in inr (r.0, (st ∷ [], others, refl, r.1)))
    (λ x.
    ⊎_elim (λ i. inl (there i))
    (λ h. inr (h.0, (st ∷ h.1.0, h.1.1, ap (λ (z : List (Checked Step)). good st ∷ z) h.1.2, more h.1.0 (short_before d x.0 next (length h.1.0) st x.1 h.1.3))))
    (steps_lack x.0 others k x.2))
    (stop_then (store_step d next st) _ k e)
  where
    more : (steps : List Step) → Short d (length steps + 1) → Short d (length (st ∷ steps))
    more steps h = ⊎_elim (λ x. inl (omega (arith, x))) (λ x. inr (omega (arith, x))) h
