-- The steps of an expansion, stored one after the other, keep form; while the chain is being written its last record is still to come.
use mathlib.Core.Path.{◌≡◌, refl, sym, ap, subst}
use mathlib.Core.List.Memᴰ.{head as here}
use mathlib.Core.List.Memᴰ.{tail as there}
use mathlib.Core.List.{List, [], ◌∷◌, Memᴰ as In}
use mathlib.Core.Logic.{◌⊎◌, inl, inr, ⊎_elim}
use Rattle.std.specs.Prelude.{Option, None, Some}
use Prim.Native.Nat.{ℕ, suc, ◌+◌, ◌≤◌, ◌<◌}
use native.Mathlib.Omega.{arith}
use lib.Dec.{leb}
use lib.ListN.{length}
use borrow.Author.Tests.{leb-false}
use Rattle.words.specs.Labels.{Checked, good, refused}
use Rattle.words.specs.Sides.{non_empty}
use Rattle.words.specs.Steps.{Triple, Step}
use Rattle.words.proofs.CheckedLaws.{good≢refused, good_is, past_check, past_then}
use Rattle.words.proofs.StepRange.{InRange}
use Rattle.calls.specs.Store.{Store, state_room, tr_room, find, add, append, add_with, tr_room_with}
use Rattle.calls.specs.Calls.{Reached, reached_by, reach, store_step, next_for, store_steps, reach_with, store_step_with, store_steps_with}
use Rattle.calls.proofs.StoreForms.{Form}
use Rattle.calls.proofs.ChainLaws.{find_sound}
use Rattle.calls.proofs.FormKept.{add_form, append_form}

-- what reaching a triple leaves: the state is used, and no transition record more
pub record ReachKept (S1 S2 : ℕ) (d : Store) (last : ℕ) (r : Reached) : Type 0 where
  pub form : Form S1 S2 r.store last
  pub inside : r.state < r.store.used.states
  pub states : d.used.states ≤ r.store.used.states
  pub trs : r.store.used.trs ≡ d.used.trs
  pub room : tr_room r.store.memory ≡ tr_room d.memory

-- what one step leaves
pub record StepKept (S1 S2 : ℕ) (d : Store) (last : ℕ) (e : Store) : Type 0 where
  pub form : Form S1 S2 e last
  pub states : d.used.states ≤ e.used.states
  pub trs : e.used.trs ≡ d.used.trs + 1

-- what all steps leave
pub record StepsKept (S1 S2 : ℕ) (d : Store) (count : ℕ) (e : Store) : Type 0 where
  pub form : Form S1 S2 e e.used.trs
  pub states : d.used.states ≤ e.used.states
  pub trs : e.used.trs ≡ d.used.trs + count

-- the link that a step's record gets
abbrev pub LinkOk : Store → ℕ → ℕ → Type 0
LinkOk d last next = (next ≡ 0) ⊎ ((next ≡ d.used.trs + 2) × (d.used.trs + 1 < last))

pub link_ok : {A : Type 0} (d : Store) (last : ℕ) (others : List A) → d.used.trs + suc (length others) ≤ last → LinkOk d last (next_for d (non_empty others))
link_ok d last [] h = inl refl
link_ok d last (x ∷ xs) h = inr (refl, omega arith)

module _ {S1 S2 : ℕ} where
  new_reached : (d : Store) (last : ℕ) (t : Triple) → Form S1 S2 d last → InRange S1 S2 t → 0 < d.used.states → d.used.states < state_room d.memory
      → ReachKept S1 S2 d last (record { store = add d t; state = d.used.states })
  unfolding add_with tr_room_with
  new_reached d last t form ok any room =
      record { form = add_form d form t ok room (form.headed any); inside = omega arith; states = omega arith; trs = refl; room = refl }

  reached_by_lem : (d : Store) (last : ℕ) (t : Triple) (r : Reached) (o : Option ℕ) → Form S1 S2 d last → InRange S1 S2 t → 0 < d.used.states → find d t ≡ o → reached_by d t o ≡ good r
      → ReachKept S1 S2 d last r
  reached_by_lem d last t r (Some n) form ok any e g =
      subst (ReachKept S1 S2 d last) (good_is g) (record { form = form; inside = (find_sound d form t n e).0; states = omega arith; trs = refl; room = refl })
  reached_by_lem d last t r None form ok any e g =
      let c = past_check (leb (state_room d.memory) d.used.states) 13 _ r g in
      subst (ReachKept S1 S2 d last) (good_is c.1) (new_reached d last t form ok any (leb-false _ _ c.0))

  pub reach_kept : (d : Store) (last : ℕ) (t : Triple) (r : Reached) → Form S1 S2 d last → InRange S1 S2 t → 0 < d.used.states → reach d t ≡ good r → ReachKept S1 S2 d last r
  unfolding reach_with
  reach_kept d last t r form ok any g = reached_by_lem d last t r (find d t) form ok any refl g

  appended : (d : Store) (last next : ℕ) (st : Step) (r : Reached) → LinkOk d last next → d.used.trs < tr_room d.memory → ReachKept S1 S2 d last r
      → StepKept S1 S2 d last (append r.store st r.state next)
  unfolding append
  appended d last next st r link room k = record {
    form = append_form r.store k.form st r.state next k.inside (rw (k.trs, k.room) room) (rw k.trs link);
    states = k.states;
    trs = ap (λ n. n + 1) k.trs;
  }

  pub step_kept : (d : Store) (last next : ℕ) (st : Step) (e : Store) → Form S1 S2 d last → InRange S1 S2 st.to → 0 < d.used.states → LinkOk d last next → store_step d next st ≡ good e
      → StepKept S1 S2 d last e
  unfolding store_step_with
  step_kept d last next st e form ok any link g =
      let c = past_check (leb (tr_room d.memory) d.used.trs) 13 _ e g in
      let r = past_then (reach d st.to) _ e c.1 in
      subst (StepKept S1 S2 d last) (good_is r.2) (appended d last next st r.0 link (leb-false _ _ c.0) (reach_kept d last st.to r.0 form ok any r.1))

  -- every target in range, and `last` the number of records when all steps are stored
  pub steps_kept : (d : Store) (last : ℕ) (steps : List (Checked Step)) (e : Store) → Form S1 S2 d last → ((st : Step) → In (good st) steps → InRange S1 S2 st.to) → 0 < d.used.states
      → d.used.trs + length steps ≡ last → store_steps d steps ≡ good e → StepsKept S1 S2 d (length steps) e
  unfolding store_steps_with
  steps_kept d last [] e form ok any h g =
      let z = good_is g in
      let l : last ≡ d.used.trs = omega arith in
      subst (StepsKept S1 S2 d 0) z (record { form = rw l at form; states = omega arith; trs = omega arith })
  steps_kept d last (refused n ∷ others) e form ok any h g = absurd (good≢refused (sym g))
  steps_kept d last (good st ∷ others) e form ok any h g =
      let m = past_then (store_step d (next_for d (non_empty others)) st) _ e g in
      let k = step_kept d last (next_for d (non_empty others)) st m.0 form (ok st (here refl)) any (link_ok d last others (omega arith)) m.1 in
      let r = steps_kept m.0 last others e k.form (λ s i. ok s (there i)) (omega (arith, k.states)) (omega (arith, k.trs)) m.2 in
      record { form = r.form; states = omega (arith, r.states, k.states); trs = omega (arith, r.trs, k.trs) }

-- a chain may be longer than it is
pub longer : {S1 S2 : ℕ} (d : Store) {last : ℕ} (more : ℕ) → Form S1 S2 d last → last ≤ more → Form S1 S2 d more
longer d more form h = record {
  states_fit = form.states_fit;
  trs_fit = form.trs_fit;
  head = form.head;
  headed = form.headed;
  state = form.state;
  tr = λ i l. let r = form.tr i l in record { target = r.target; next = ⊎_elim inl (λ p. inr (p.0, omega (arith, h, p.1))) r.next };
}
