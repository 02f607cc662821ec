-- The steps of an expansion in both layouts: they leave the same records, or are refused by one number in both, or by 13 in the old one, whose slices hold more records than its limit.
use mathlib.Core.Path.{◌≡◌, refl, ◌∙◌, ap}
use mathlib.Core.List.Memᴰ.{head as here}
use mathlib.Core.List.Memᴰ.{tail as there}
use mathlib.Core.List.{List, [], ◌∷◌, Memᴰ as In}
use mathlib.Core.Logic.{◌⊎◌, inl, inr, ⊎_elim}
use Rattle.std.specs.Prelude.{Option, None, Some}
use Prim.Native.Nat.{ℕ, ◌+◌, ◌≤◌, ◌<◌, min}
use native.Mathlib.Omega.{arith}
use native.Mathlib.Decide.{dec_lt}
use lib.ListN.{length}
use borrow.Author.Tests.{le-leb, lt-leb}
use Rattle.lists.proofs.Put.{length_put}
use Rattle.words.specs.Labels.{Checked, good, refused}
use Rattle.words.specs.Sides.{non_empty}
use Rattle.words.specs.Steps.{Triple, Step}
use Rattle.words.proofs.StepRange.{InRange}
use Rattle.calls.specs.Store.{Memory, Store, state_room, tr_room, find, add, append, add_with, find_with, state_room_with, tr_room_with}
use Rattle.calls.specs.Calls.{store_step, next_for, store_steps, reach_with, store_step_with, store_steps_with}
use Rattle.calls.proofs.StoreForms.{Form}
use Rattle.calls.proofs.ChainLaws.{find_sound}
use Rattle.calls.proofs.FormKept.{add_form, append_form}
use Rattle.calls.proofs.StepsKept.{LinkOk, link_ok}
use Rattle.calls.proofs.TwoStores.{next_alike}
use Rattle.layouts.specs.Layout.{five}
use Rattle.layouts.specs.SameRecords.{new_states, whole_trs, SameRecords}
use Rattle.layouts.proofs.SameStores.{beside, Rooms, rooms, find_two, add_two, append_two}

-- one of the numbers of whole records is above the old limit
abbrev pub Wide : ℕ → ℕ → Type 0
Wide K J = (65535 < K) ⊎ (65535 < J)

-- the new store in form, the same records, K and J whole ones of each sort, and no more used than the old limit allows
pub record Both (S1 S2 K J last : ℕ) (o : Memory) (d : Store) : Type 0 where
  pub form : Form S1 S2 d last
  pub same : SameRecords o d.memory d.used
  pub states : new_states d.memory ≡ K
  pub trs : whole_trs d.memory ≡ J
  pub low_states : d.used.states ≤ 65535
  pub low_trs : d.used.trs ≤ 65535
  pub any : 0 < d.used.states

-- one more record beside k whole ones: both rooms have it, or neither, or the new one alone, since k is above the old limit
room_split : (u k a b : ℕ) → a ≡ min 65535 k → b ≡ min 16777215 k → ((u < a) × (u < b)) ⊎ (((a ≤ u) × (b ≤ u)) ⊎ ((a ≤ u) × (65535 < k)))
room_split u k a b p q = go (dec_lt u a) (dec_lt u b)
  where
    go : Dec (u < a) → Dec (u < b) → ((u < a) × (u < b)) ⊎ (((a ≤ u) × (b ≤ u)) ⊎ ((a ≤ u) × (65535 < k)))
    go (yes x) y = inl (x, omega arith)
    go (no x) (yes y) = inr (inr (omega arith, omega arith))
    go (no x) (no y) = inr (inl (omega arith, omega arith))

-- what both leave
abbrev Two : (Memory → Store → Type 0) → ℕ → ℕ → Checked Store → Checked Store → Type 0
Two P K J x y = ((x ≡ refused 13) × Wide K J) ⊎ (((k : ℕ) × (x ≡ refused k) × (y ≡ refused k)) ⊎ ((o : Memory) × (d : Store) × (x ≡ good (beside o d)) × (y ≡ good d) × P o d))

abbrev Step2 : ℕ → ℕ → ℕ → ℕ → ℕ → ℕ → Checked Store → Checked Store → Type 0
Step2 S1 S2 K J last used = Two (λ o d. Both S1 S2 K J last o d × (d.used.trs ≡ used + 1)) K J

abbrev pub Steps2 : ℕ → ℕ → ℕ → ℕ → ℕ → Checked Store → Checked Store → Type 0
Steps2 S1 S2 K J last = Two (Both S1 S2 K J last) K J

module _ {S1 S2 K J : ℕ} (narrow : S2 ≤ 65535) (last : ℕ) where
  module _ (o : Memory) (d : Store) (w : Both S1 S2 K J last o d) where
    abbrev r : Rooms o d.memory
    r = rooms o d w.same

    -- a new transition
    append_both : (st : Step) (target next : ℕ) → target < d.used.states → d.used.trs < tr_room_with five o → d.used.trs < tr_room d.memory → LinkOk d last next
        → Both S1 S2 K J last (append (beside o d) st target next).memory (append d st target next)
    unfolding append
    append_both st target next used room more link = record {
      form = append_form d w.form st target next used more link;
      same = append_two o d w.same w.form st target next (omega (arith, more, r.new_trs));
      states = w.states;
      trs = simp length_put w.trs;
      low_states = w.low_states;
      low_trs = omega (arith, room, r.old_trs);
      any = w.any;
    }

    -- a new state
    add_both : (t : Triple) → InRange S1 S2 t → d.used.states < state_room_with five o → d.used.states < state_room d.memory
        → Both S1 S2 K J last (add_with five (beside o d) t).memory (add d t)
    unfolding add_with
    add_both t ok room more =
        let headed = w.form.headed w.any in
        record {
          form = add_form d w.form t ok more headed;
          same = add_two o d w.same w.form t (omega (arith, ok.s2, narrow)) room more headed;
          states = simp length_put w.states;
          trs = w.trs;
          low_states = omega (arith, room, r.old_states_lem);
          low_trs = w.low_trs;
          any = omega arith;
        }

  -- one step, in which both or neither or the new one alone have room
  module _ (o : Memory) (d : Store) (w : Both S1 S2 K J last o d) (next : ℕ) (st : Step) (ok : InRange S1 S2 st.to) (link : LinkOk d last next) where
    abbrev T : ℕ
    T = d.used.trs

    abbrev U : ℕ
    U = d.used.states

    abbrev Goal : Type 0
    Goal = Step2 S1 S2 K J last T (store_step_with five (beside o d) next st) (store_step d next st)

    same_find : find_with five (beside o d) st.to ≡ find d st.to
    same_find = find_two o d w.same w.form st.to

    -- to a state found before
    old_step : T < tr_room_with five o → T < tr_room d.memory → (n : ℕ) → find d st.to ≡ Some n → Goal
    unfolding store_step_with reach_with append
    old_step x y n f = inr (inr (
      (append (beside o d) st n next).memory,
      append d st n next,
      rw (lt-leb _ _ x, same_find, f),
      rw (lt-leb _ _ y, f),
      (append_both o d w st n next (find_sound d w.form st.to n f).0 x y link, refl),
    ))

    -- to a new one
    new_step : T < tr_room_with five o → T < tr_room d.memory → find d st.to ≡ None → Goal
    unfolding store_step_with reach_with append add_with tr_room_with
    new_step x y f =
        ⊎_elim both (⊎_elim none' old)
        (room_split U K (state_room_with five o) (state_room d.memory) ((r o d w).old_states_lem ∙ ap (min 65535) w.states) ((r o d w).new_states_lem ∙ ap (min 16777215) w.states))
      where
        both : (U < state_room_with five o) × (U < state_room d.memory) → Goal
        both (a, b) = inr (inr (
          (append (add_with five (beside o d) st.to) st U next).memory,
          append (add d st.to) st U next,
          rw (lt-leb _ _ x, same_find, f, lt-leb _ _ a),
          rw (lt-leb _ _ y, f, lt-leb _ _ b),
          (append_both (add_with five (beside o d) st.to).memory (add d st.to) (add_both o d w st.to ok a b) st U next (omega arith) x y link, refl),
        ))

        none' : (state_room_with five o ≤ U) × (state_room d.memory ≤ U) → Goal
        none' (a, b) = inr (inl (13, rw (lt-leb _ _ x, same_find, f, le-leb _ _ a), rw (lt-leb _ _ y, f, le-leb _ _ b)))

        old : (state_room_with five o ≤ U) × (65535 < K) → Goal
        old (a, b) = inl (rw (lt-leb _ _ x, same_find, f, le-leb _ _ a), inl b)

    one_step : Goal
    unfolding store_step_with
    one_step =
        ⊎_elim (λ z. on (find d st.to) z.0 z.1 refl) (⊎_elim (λ z. inr (inl (13, rw (le-leb _ _ z.0), rw (le-leb _ _ z.1)))) (λ z. inl (rw (le-leb _ _ z.0), inr z.1)))
        (room_split T J (tr_room_with five o) (tr_room d.memory) ((r o d w).old_trs ∙ ap (min 65535) w.trs) ((r o d w).new_trs ∙ ap (min 16777215) w.trs))
      where
        on : (p : Option ℕ) → T < tr_room_with five o → T < tr_room d.memory → find d st.to ≡ p → Goal
        on None x y f = new_step x y f
        on (Some n) x y f = old_step x y n f

  pub steps_two : (steps : List (Checked Step)) (o : Memory) (d : Store) → Both S1 S2 K J last o d → ((st : Step) → In (good st) steps → InRange S1 S2 st.to)
      → d.used.trs + length steps ≤ last → Steps2 S1 S2 K J last (store_steps_with five (beside o d) steps) (store_steps d steps)
  unfolding store_steps_with
  steps_two [] o d w ok h = inr (inr (o, d, refl, refl, w))
  steps_two (refused k ∷ others) o d w ok h = inr (inl (k, refl, refl))
  steps_two (good st ∷ others) o d w ok h =
      go (one_step o d w (next_for d (non_empty others)) st (ok st (here refl)) (link_ok d last others h)) (λ o' d' w' x. steps_two others o' d' w' (λ s i. ok s (there i)) x)
    where
      next2 : next_for (beside o d) (non_empty others) ≡ next_for d (non_empty others)
      next2 = next_alike d (beside o d) (non_empty others) refl

      go : Step2 S1 S2 K J last d.used.trs (store_step_with five (beside o d) (next_for d (non_empty others)) st) (store_step d (next_for d (non_empty others)) st)
          → ((o' : Memory) (d' : Store) → Both S1 S2 K J last o' d' → d'.used.trs + length others ≤ last
          → Steps2 S1 S2 K J last (store_steps_with five (beside o' d') others) (store_steps d' others))
          → Steps2 S1 S2 K J last (store_steps_with five (beside o d) (good st ∷ others)) (store_steps d (good st ∷ others))
      go (inl (x, y)) rec = inl (rw (next2, x), y)
      go (inr (inl (k, x, y))) rec = inr (inl (k, rw (next2, x), rw y))
      go (inr (inr (o', d', x, y, (w', e)))) rec = rw (next2, x, y) (rec o' d' w' (omega (arith, e, h)))
