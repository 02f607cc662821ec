-- 13 only where memory is full: kept moves are stored just where there is a transition record for each of them and a state record for each triple among their
-- targets that no used state has. By induction along the moves: what the table finds is what is known, the triples of the used states and the targets so far.
use mathlib.Core.Path.{◌≡◌, refl, sym, ◌∙◌, ap, subst}
use mathlib.Core.Bool.{Bool, true, false, not, ◌||◌, true≢false, false≢true}
use mathlib.Core.List.Memᴰ.{head as here}
use mathlib.Core.List.Memᴰ.{tail as there}
use mathlib.Core.List.{List, [], ◌∷◌, ◌++◌, map, Memᴰ as In}
use mathlib.Core.Logic.{◌⊎◌, inl, inr, ⊎_elim}
use Rattle.std.specs.Prelude.{Option, None, Some}
use Prim.Native.Nat.{ℕ, zero, suc, ◌+◌, ◌≤◌, ◌<◌}
use native.Mathlib.Omega.{arith}
use native.Mathlib.Decide.{dec_lt}
use lib.ListN.{length}
use borrow.Author.Tests.{lt-leb, le-leb}
use Rattle.lists.specs.Lists.{interval, put_if}
use Rattle.lists.proofs.Members.{or_cases, or_left, or_right}
use Rattle.words.specs.Labels.{Checked, good, refused, and_then}
use Rattle.words.specs.Sides.{non_empty}
use Rattle.words.specs.Steps.{Triple, Step}
use Rattle.words.proofs.StepRange.{InRange}
use Rattle.calls.specs.Store.{Store, state_size, tr_size, state_room, tr_room, triple_at, same_triple, find, add, append, add_with, chain_with, find_with, state_room_with, tr_room_with}
use Rattle.calls.specs.Calls.{store_step, next_for, store_steps, reach_with, store_step_with, store_steps_with}
use Rattle.calls.proofs.RecordLaws.{room_same}
use Rattle.calls.proofs.StoreForms.{Form}
use Rattle.calls.proofs.ChainLaws.{same_triple_lem, same_self, find_sound, find_added, find_other}
use Rattle.calls.proofs.StepsKept.{LinkOk, link_ok}
use Rattle.calls.proofs.StepsStay.{Stays, step_stays}
use Rattle.calls.proofs.FindLaws.{Whole}
use Rattle.calls.proofs.StepsMade.{led_new, led_old, step_made}
use Rattle.readings.specs.Answers.{among, newOnes, targets}

abbrev is_found : Option ℕ → Bool
is_found None = false
is_found (Some n) = true

found_is : (o : Option ℕ) → is_found o ≡ true → (n : ℕ) × (o ≡ Some n)
found_is None e = absurd (false≢true e)
found_is (Some n) e = (n, refl)

none_is : (o : Option ℕ) → is_found o ≡ false → o ≡ None
none_is None e = refl
none_is (Some n) e = absurd (true≢false e)

-- the table finds a triple just where it is known
abbrev pub Knows : List Triple → Store → Type 0
Knows known d = (t : Triple) → among known t ≡ is_found (find d t)

-- one of the triples of an interval of states
among_triples : (states : List ℕ) (from count : ℕ) (t : Triple) → among (map (triple_at states) (interval from count)) t ≡ true
    → (n : ℕ) × (from ≤ n) × (n < from + count) × (triple_at states n ≡ t)
unfolding among interval
among_triples states from zero t e = absurd (false≢true e)
among_triples states from (suc count) t e =
    ⊎_elim (λ z. (from, omega arith, omega arith, same_triple_lem (triple_at states from) t z))
    (λ z. let r = among_triples states (suc from) count t z in (r.0, omega (arith, r.1), omega (arith, r.2), r.3))
    (or_cases (same_triple (triple_at states from) t) (among (map (triple_at states) (interval (suc from) count)) t) e)

triples_among : (states : List ℕ) (from count n : ℕ) → from ≤ n → n < from + count → among (map (triple_at states) (interval from count)) (triple_at states n) ≡ true
unfolding among interval
triples_among states from zero n h i = absurd (omega arith)
triples_among states from (suc count) n h i = go (dec_lt from n) (λ a b. triples_among states (suc from) count n a b)
  where
    after : List Triple
    after = map (triple_at states) (interval (suc from) count)

    go : Dec (from < n) → (suc from ≤ n → n < suc from + count → among after (triple_at states n) ≡ true)
        → (same_triple (triple_at states from) (triple_at states n) || among after (triple_at states n)) ≡ true
    go (yes l) rec = or_right (same_triple (triple_at states from) (triple_at states n)) _ (rec (omega arith) (omega arith))
    go (no l) rec =
        let z : from ≡ n = omega arith in
        or_left _ (among after (triple_at states n)) (ap (λ k. same_triple (triple_at states k) (triple_at states n)) z ∙ same_self (triple_at states n))

-- the triples of the used states
abbrev triples_of : Store → List Triple
triples_of d = map (triple_at d.memory.states) (interval 0 d.used.states)

-- they are known at first
pub known_first : {S1 S2 last : ℕ} (d : Store) → Form S1 S2 d last → Whole d → Knows (triples_of d) d
known_first d form whole t = go (find d t) (among (triples_of d) t) refl refl
  where
    go : (o : Option ℕ) (b : Bool) → find d t ≡ o → among (triples_of d) t ≡ b → among (triples_of d) t ≡ is_found (find d t)
    go None true f e =
        let r = among_triples d.memory.states 0 d.used.states t e in
        absurd (true≢false (ap is_found (sym (ap (find d) (sym r.3) ∙ whole r.0 (omega (arith, r.2))) ∙ f)))
    go None false f e = e ∙ sym (ap is_found f)
    go (Some n) b f e =
        let r = find_sound d form t n f in
        subst (λ u. among (triples_of d) u ≡ true) r.1 (triples_among d.memory.states 0 d.used.states n (omega arith) (omega (arith, r.0)))
        ∙ sym (ap is_found f)

-- a table that is being written to, and what it knows
pub record Ready (S1 S2 last : ℕ) (known : List Triple) (d : Store) : Type 0 where
  pub form : Form S1 S2 d last
  pub whole : Whole d
  pub any : 0 < d.used.states
  pub knows : Knows known d

-- one step stored: `new` states found by it
pub record Goes (S1 S2 last : ℕ) (known : List Triple) (d : Store) (new : ℕ) (r : Checked Store) : Type 0 where
  pub store : Store
  pub is : r ≡ good store
  pub ready : Ready S1 S2 last known store
  pub trs : store.used.trs ≡ d.used.trs + 1
  pub states : store.used.states ≡ d.used.states + new
  pub tr_room_lem : tr_room store.memory ≡ tr_room d.memory
  pub state_room_lem : state_room store.memory ≡ state_room d.memory

stays_rooms : (d e : Store) → Stays d e → (tr_room e.memory ≡ tr_room d.memory) × (state_room e.memory ≡ state_room d.memory)
unfolding tr_room_with state_room_with
stays_rooms d e s = (room_same tr_size d.memory.trs e.memory.trs s.trs_length, room_same state_size d.memory.states e.memory.states s.states_length)

module _ {S1 S2 : ℕ} (last : ℕ) where
  module _ (known : List Triple) (d : Store) (w : Ready S1 S2 last known d) (next : ℕ) (st : Step) (ok : InRange S1 S2 st.to) (link : LinkOk d last next) where
    abbrev t : Triple
    t = st.to

    -- no transition record
    no_tr : tr_room d.memory ≤ d.used.trs → store_step d next st ≡ refused 13
    unfolding store_step_with
    no_tr h = rw (le-leb _ _ h)

    module _ (more : d.used.trs < tr_room d.memory) where
      -- a state found before
      old_at_lem : (n : ℕ) → find d t ≡ Some n → among known t ≡ true → Goes S1 S2 last (t ∷ known) d 0 (store_step d next st)
      unfolding store_step_with reach_with append find_with chain_with among
      old_at_lem n f e =
          let k = step_made d last next st d n link more (led_old d last t n w.form w.whole f) in
          let is : store_step d next st ≡ good (append d st n next) = rw (lt-leb _ _ more, f) in
          let rooms = stays_rooms d (append d st n next) (step_stays d next st _ is) in
          record {
            store = append d st n next;
            is = is;
            ready = record { form = k.form; whole = k.whole; any = w.any; knows = λ u. go u (same_triple t u) refl };
            trs = refl;
            states = omega arith;
            tr_room_lem = rooms.0;
            state_room_lem = rooms.1;
          }
        where
          go : (u : Triple) (b : Bool) → same_triple t u ≡ b → (same_triple t u || among known u) ≡ is_found (find d u)
          go u true z = ap (λ x. x || among known u) z ∙ (sym (ap (among known) (sym (same_triple_lem t u z)) ∙ e) ∙ w.knows u)
          go u false z = ap (λ x. x || among known u) z ∙ w.knows u

      goes_old : among known t ≡ true → Goes S1 S2 last (t ∷ known) d 0 (store_step d next st)
      goes_old e = let f = found_is (find d t) (sym (w.knows t) ∙ e) in old_at_lem f.0 f.1 e

      module _ (e : among known t ≡ false) where
        missing : find d t ≡ None
        missing = none_is (find d t) (sym (w.knows t) ∙ e)

        -- no state record
        no_state : state_room d.memory ≤ d.used.states → store_step d next st ≡ refused 13
        unfolding store_step_with reach_with
        no_state h = rw (lt-leb _ _ more, missing, le-leb _ _ h)

        -- a new state
        goes_new : d.used.states < state_room d.memory → Goes S1 S2 last (t ∷ known) d 1 (store_step d next st)
        unfolding store_step_with reach_with append find_with chain_with among add_with
        goes_new room =
            let headed = w.form.headed w.any in
            let k = step_made d last next st (add d t) d.used.states link more (led_new d last t w.form w.whole ok w.any room missing) in
            let is : store_step d next st ≡ good (append (add d t) st d.used.states next) = rw (lt-leb _ _ more, missing, lt-leb _ _ room) in
            let rooms = stays_rooms d (append (add d t) st d.used.states next) (step_stays d next st _ is) in
            record {
              store = append (add d t) st d.used.states next;
              is = is;
              ready = record { form = k.form; whole = k.whole; any = omega arith; knows = λ u. go headed u (same_triple t u) refl };
              trs = refl;
              states = refl;
              tr_room_lem = rooms.0;
              state_room_lem = rooms.1;
            }
          where
            go : 0 < length d.memory.heads → (u : Triple) (b : Bool) → same_triple t u ≡ b → (same_triple t u || among known u) ≡ is_found (find (add d t) u)
            go headed u true z =
                ap (λ x. x || among known u) z ∙ sym (ap (λ v. is_found (find (add d t) v)) (sym (same_triple_lem t u z)) ∙ ap is_found (find_added d w.form t room headed))
            go headed u false z = ap (λ x. x || among known u) z ∙ (w.knows u ∙ sym (ap is_found (find_other d w.form t room headed u z)))

  -- kept moves for which there is room are stored, and the rest comes after them
  pub stored_first : (steps : List Step) (rest : List (Checked Step)) (known : List Triple) (d : Store) → Ready S1 S2 last known d
      → ((st : Step) → In st steps → InRange S1 S2 st.to) → d.used.trs + length (map good steps ++ rest) ≤ last
      → d.used.trs + length steps ≤ tr_room d.memory → d.used.states + length (newOnes known (targets steps)) ≤ state_room d.memory
      → (e : Store) × (store_steps d (map good steps ++ rest) ≡ store_steps e rest)
  unfolding store_steps_with newOnes
  stored_first [] rest known d w ok h a b = (d, refl)
  stored_first (st ∷ steps) rest known d w ok h a b =
      go (among known st.to) refl b (λ e v x y z. stored_first steps rest (st.to ∷ known) e v (λ s i. ok s (there i)) x y z)
    where
      others : List (Checked Step)
      others = map good steps ++ rest

      next : ℕ
      next = next_for d (non_empty others)

      -- the rest of the steps, in the store that this one leaves
      Rest : Type 0
      Rest = (e : Store) → Ready S1 S2 last (st.to ∷ known) e → e.used.trs + length others ≤ last → e.used.trs + length steps ≤ tr_room e.memory
          → e.used.states + length (newOnes (st.to ∷ known) (targets steps)) ≤ state_room e.memory → (f : Store) × (store_steps e others ≡ store_steps f rest)

      on : (new : ℕ) → Goes S1 S2 last (st.to ∷ known) d new (store_step d next st)
          → d.used.states + new + length (newOnes (st.to ∷ known) (targets steps)) ≤ state_room d.memory → Rest → (f : Store) × (store_steps d (good st ∷ others) ≡ store_steps f rest)
      on new g c rec =
          let r = rec g.store g.ready (omega (arith, g.trs, h)) (omega (arith, g.trs, g.tr_room_lem, a)) (omega (arith, g.states, g.state_room_lem, c)) in
          (r.0, ap (λ (x : Checked Store). and_then x (λ e. store_steps e others)) g.is ∙ r.1)

      go : (b : Bool) → among known st.to ≡ b
          → d.used.states + length (put_if (not b) st.to (newOnes (st.to ∷ known) (targets steps))) ≤ state_room d.memory → Rest → (f : Store) × (store_steps d (good st ∷ others) ≡ store_steps f rest)
      go true e c rec = on 0 (goes_old known d w next st (ok st (here refl)) (link_ok d last others h) (omega arith) e) (omega arith) rec
      go false e c rec = on 1 (goes_new known d w next st (ok st (here refl)) (link_ok d last others h) (omega arith) e (omega arith)) (omega arith) rec

  -- kept moves for which a record is lacking are refused by 13, whatever comes after them
  pub stored_none : (steps : List Step) (rest : List (Checked Step)) (known : List Triple) (d : Store) → Ready S1 S2 last known d
      → ((st : Step) → In st steps → InRange S1 S2 st.to) → d.used.trs + length (map good steps ++ rest) ≤ last
      → (tr_room d.memory < d.used.trs + length steps) ⊎ (state_room d.memory < d.used.states + length (newOnes known (targets steps)))
      → store_steps d (map good steps ++ rest) ≡ refused 13
  unfolding store_steps_with newOnes
  stored_none [] rest known d w ok h lack = absurd (⊎_elim (λ x. omega (arith, x, w.form.trs_fit)) (λ x. omega (arith, x, w.form.states_fit)) lack)
  stored_none (st ∷ steps) rest known d w ok h lack =
      by_tr (dec_lt d.used.trs (tr_room d.memory)) (λ e v x y. stored_none steps rest (st.to ∷ known) e v (λ s i. ok s (there i)) x y)
    where
      others : List (Checked Step)
      others = map good steps ++ rest

      next : ℕ
      next = next_for d (non_empty others)

      link : LinkOk d last next
      link = link_ok d last others h

      Rest : Type 0
      Rest = (e : Store) → Ready S1 S2 last (st.to ∷ known) e → e.used.trs + length others ≤ last
          → (tr_room e.memory < e.used.trs + length steps) ⊎ (state_room e.memory < e.used.states + length (newOnes (st.to ∷ known) (targets steps)))
          → store_steps e others ≡ refused 13

      on : (new : ℕ) → Goes S1 S2 last (st.to ∷ known) d new (store_step d next st)
          → (tr_room d.memory < d.used.trs + suc (length steps)) ⊎ (state_room d.memory < d.used.states + new + length (newOnes (st.to ∷ known) (targets steps)))
          → Rest → store_steps d (good st ∷ others) ≡ refused 13
      on new g c rec =
          ap (λ (x : Checked Store). and_then x (λ e. store_steps e others)) g.is
          ∙ rec g.store g.ready (omega (arith, g.trs, h)) (⊎_elim (λ x. inl (omega (arith, x, g.trs, g.tr_room_lem))) (λ x. inr (omega (arith, x, g.states, g.state_room_lem))) c)

      stop : store_step d next st ≡ refused 13 → store_steps d (good st ∷ others) ≡ refused 13
      stop e = ap (λ (x : Checked Store). and_then x (λ e. store_steps e others)) e

      by_state : (more : d.used.trs < tr_room d.memory) → among known st.to ≡ false → Dec (d.used.states < state_room d.memory)
          → (tr_room d.memory < d.used.trs + suc (length steps)) ⊎ (state_room d.memory < d.used.states + suc (length (newOnes (st.to ∷ known) (targets steps))))
          → Rest → store_steps d (good st ∷ others) ≡ refused 13
      by_state more e (yes x) c rec = on 1 (goes_new known d w next st (ok st (here refl)) link more e x) (⊎_elim inl (λ y. inr (omega (arith, y))) c) rec
      by_state more e (no x) c rec = stop (no_state known d w next st (ok st (here refl)) link more e (omega arith))

      by_known : (b : Bool) → (more : d.used.trs < tr_room d.memory) → among known st.to ≡ b
          → (tr_room d.memory < d.used.trs + suc (length steps)) ⊎ (state_room d.memory < d.used.states + length (put_if (not b) st.to (newOnes (st.to ∷ known) (targets steps))))
          → Rest → store_steps d (good st ∷ others) ≡ refused 13
      by_known true more e c rec = on 0 (goes_old known d w next st (ok st (here refl)) link more e) (⊎_elim inl (λ y. inr (omega (arith, y))) c) rec
      by_known false more e c rec = by_state more e (dec_lt d.used.states (state_room d.memory)) c rec

      by_tr : Dec (d.used.trs < tr_room d.memory) → Rest → store_steps d (good st ∷ others) ≡ refused 13
      by_tr (yes x) rec = by_known (among known st.to) x refl lack rec
      by_tr (no x) rec = stop (no_tr known d w next st (ok st (here refl)) link (omega arith))
