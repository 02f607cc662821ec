-- What the stored steps of an expansion are: one record for each step, in order, linked one to the next; the new states are targets of the new records and not expanded; every used
-- state is still found by its triple.
use mathlib.Core.Path.{◌≡◌, refl, sym, ◌∙◌, ap, subst}
use mathlib.Core.Bool.{Bool, true, false}
use mathlib.Core.List.Memᴰ.{head as here}
use mathlib.Core.List.Memᴰ.{tail as there}
use mathlib.Core.List.{List, [], ◌∷◌, map, Memᴰ as In}
use mathlib.Core.Logic.{inl}
use Rattle.std.specs.Prelude.{Option, None, Some}
use Rattle.std.proofs.lemmas.Option.{none-some, same_Some}
use Prim.Native.Nat.{ℕ, zero, suc, ◌+◌, ◌*◌, ◌≤◌, ◌<◌}
use native.Mathlib.Omega.{arith}
use native.Mathlib.Decide.{ℕ_discrete, dec_lt}
use lib.Dec.{leb}
use lib.ListN.{length, get_or}
use borrow.Author.Tests.{leb-false}
use Rattle.lists.specs.Lists.{At, linked}
use Rattle.words.specs.Labels.{Checked, good, refused}
use Rattle.words.specs.Sides.{non_empty}
use Rattle.words.specs.Steps.{Triple, Step}
use Rattle.words.proofs.CheckedLaws.{good≢refused, good_is, past_check, past_then}
use Rattle.words.proofs.StepRange.{InRange}
use Rattle.calls.specs.Store.{Store, state_size, tr_size, state_room, tr_room, state_field, triple_at, expanded_place, expanded_at, tr_field, target_at, tr_next_at, find, add, append, add_with, expanded_with, field_of, tr_room_with}
use Rattle.calls.specs.Calls.{Reached, reached_by, store_step, next_for, store_steps, reach_with, store_step_with, store_steps_with}
use Rattle.calls.proofs.RecordLaws.{triple_same}
use Rattle.calls.proofs.StepsKept.{LinkOk, link_ok}
use Rattle.calls.proofs.StoreForms.{Form}
use Rattle.calls.proofs.ChainLaws.{find_sound, add_new, add_holds}
use Rattle.calls.proofs.FormKept.{add_form, append_form, append_new}
use Rattle.calls.proofs.StepsStay.{Stays, steps_stay}
use Rattle.calls.proofs.FindLaws.{Whole, whole_add, whole_append}

-- record i + 1 is that of a step: its words, and its target is the state of the step's triple
pub record IsTr (d : Store) (i : ℕ) (st : Step) (link : ℕ) : Type 0 where
  pub inside : i < d.used.trs
  pub input : tr_field d.memory.trs i 0 ≡ st.input
  pub output : tr_field d.memory.trs i 1 ≡ st.output
  pub weight : tr_field d.memory.trs i 2 ≡ st.weight
  pub used : target_at d.memory.trs i < d.used.states
  pub target : triple_at d.memory.states (target_at d.memory.trs i) ≡ st.to
  pub next : tr_next_at d.memory.trs i ≡ link

-- the link of record i + 1
abbrev pub link_at : ℕ → Bool → ℕ
link_at i true = i + 2
link_at i false = 0

-- the records from i + 1 on are those of the steps
abbrev pub Written : Store → ℕ → List Step → Type 0
Written d i [] = Unit {0}
Written d i (st ∷ others) = IsTr d i st (link_at i (non_empty others)) × Written d (suc i) others

-- records and triples that stay
module _ {d e : Store} (s : Stays d e) where
  pub stay_tr : (i k : ℕ) → i < d.used.trs → k < tr_size → tr_field e.memory.trs i k ≡ tr_field d.memory.trs i k
  unfolding field_of
  stay_tr i k h l = s.tr_word_lem (tr_size * i + k) (inl (omega arith))

  pub stay_state : (n k : ℕ) → n < d.used.states → k < state_size → state_field e.memory.states n k ≡ state_field d.memory.states n k
  unfolding field_of
  stay_state n k h l = s.state_word_lem (state_size * n + k) (inl (omega arith))

  pub stay_triple : (n : ℕ) → n < d.used.states → triple_at e.memory.states n ≡ triple_at d.memory.states n
  stay_triple n h = triple_same d.memory.states e.memory.states n n (λ k l. stay_state n k h (omega arith))

  is_tr_stays : (i : ℕ) (st : Step) (next : ℕ) → IsTr d i st next → IsTr e i st next
  unfolding target_at tr_next_at
  is_tr_stays i st next r =
      let t = stay_tr i 3 r.inside (omega arith) in
      record {
        inside = omega (arith, r.inside, s.trs);
        input = stay_tr i 0 r.inside (omega arith) ∙ r.input;
        output = stay_tr i 1 r.inside (omega arith) ∙ r.output;
        weight = stay_tr i 2 r.inside (omega arith) ∙ r.weight;
        used = omega (arith, t, r.used, s.states);
        target = ap (triple_at e.memory.states) t ∙ (stay_triple (target_at d.memory.trs i) r.used ∙ r.target);
        next = stay_tr i 4 r.inside (omega arith) ∙ r.next;
      }

-- a chain along the written records has one place for each step
pub written_length : (d : Store) (i : ℕ) (st : Step) (steps : List Step) (k : ℕ) → length steps < k → Written d i (st ∷ steps) → length (linked (tr_next_at d.memory.trs) k (suc i)) ≡ suc (length steps)
unfolding linked
written_length d i st steps zero h w = absurd (omega arith)
written_length d i st [] (suc k) h w = rw w.0.next (go k)
  where
    go : (k : ℕ) → suc (length (linked (tr_next_at d.memory.trs) k 0)) ≡ 1
    go zero = refl
    go (suc k) = refl
written_length d i st (u ∷ others) (suc k) h w =
    let n : tr_next_at d.memory.trs i ≡ suc (suc i) = w.0.next ∙ omega arith in
    rw n (ap suc (written_length d (suc i) u others k (omega arith) w.1))

-- each written record by its place
pub written_at : (d : Store) (i : ℕ) (steps : List Step) (k : ℕ) (st : Step) → Written d i steps → At steps k st → (next : ℕ) × IsTr d (i + k) st next
written_at d i [] k st w e = absurd (none-some _ e)
written_at d i (x ∷ xs) zero st w e =
    let z = same_Some x st e in
    (link_at i (non_empty xs), subst (λ j. IsTr d j st (link_at i (non_empty xs))) (omega arith) (subst (λ y. IsTr d i y (link_at i (non_empty xs))) z w.0))
written_at d i (x ∷ xs) (suc k) st w e = let r = written_at d (suc i) xs k st w.1 e in (r.0, subst (λ j. IsTr d j st r.0) (omega arith) r.1)

-- steps are stored only where none is a refusal
pub stored_good : (d : Store) (l : List (Checked Step)) (e : Store) → store_steps d l ≡ good e → (steps : List Step) × (l ≡ map good steps)
unfolding store_steps_with
stored_good d [] e g = ([], refl)
stored_good d (refused n ∷ others) e g = absurd (good≢refused (sym g))
stored_good d (good st ∷ others) e g =
    let m = past_then (store_step d (next_for d (non_empty others)) st) _ e g in
    let r = stored_good m.0 others e m.2 in
    (st ∷ r.0, ap (λ (x : List (Checked Step)). good st ∷ x) r.1)

-- where a step's triple leads: the state of the table f, which is d or d with one new state
pub record Led (S1 S2 : ℕ) (d : Store) (last : ℕ) (t : Triple) (f : Store) (n : ℕ) : Type 0 where
  pub form : Form S1 S2 f last
  pub whole : Whole f
  pub inside : n < f.used.states
  pub holds : triple_at f.memory.states n ≡ t
  pub states : d.used.states ≤ f.used.states
  pub trs : f.used.trs ≡ d.used.trs
  pub room : tr_room f.memory ≡ tr_room d.memory
  pub fresh : (m : ℕ) → d.used.states ≤ m → m < f.used.states → (n ≡ m) × (expanded_at f.memory.states m ≡ 0)

-- what one step leaves
pub record StepMade (S1 S2 : ℕ) (d : Store) (last next : ℕ) (st : Step) (e : Store) : Type 0 where
  pub form : Form S1 S2 e last
  pub whole : Whole e
  pub states : d.used.states ≤ e.used.states
  pub trs : e.used.trs ≡ d.used.trs + 1
  pub made : IsTr e d.used.trs st next
  pub fresh : (m : ℕ) → d.used.states ≤ m → m < e.used.states → (target_at e.memory.trs d.used.trs ≡ m) × (expanded_at e.memory.states m ≡ 0)

-- what all steps leave
pub record StepsMade (S1 S2 : ℕ) (d : Store) (steps : List Step) (e : Store) : Type 0 where
  pub form : Form S1 S2 e e.used.trs
  pub whole : Whole e
  pub states : d.used.states ≤ e.used.states
  pub trs : e.used.trs ≡ d.used.trs + length steps
  pub written : Written e d.used.trs steps
  -- the new states
  pub targets : (m : ℕ) → d.used.states ≤ m → m < e.used.states → (i : ℕ) × (d.used.trs ≤ i) × (i < e.used.trs) × (target_at e.memory.trs i ≡ m)
  pub unexpanded : (m : ℕ) → d.used.states ≤ m → m < e.used.states → expanded_at e.memory.states m ≡ 0
  -- their numbers in order: before record i leads to a state, every smaller new number is the target of an earlier one
  pub order : (i m : ℕ) → d.used.trs ≤ i → i < e.used.trs → d.used.states ≤ m → m < target_at e.memory.trs i → (j : ℕ) × (d.used.trs ≤ j) × (j < i) × (target_at e.memory.trs j ≡ m)

next_link : (d : Store) (b : Bool) → next_for d b ≡ link_at d.used.trs b
next_link d true = refl
next_link d false = refl

any_good : (steps : List Step) → non_empty (map good steps) ≡ non_empty steps
any_good [] = refl
any_good (x ∷ xs) = refl

module _ {S1 S2 : ℕ} where
  -- a new state
  pub led_new : (d : Store) (last : ℕ) (t : Triple) → Form S1 S2 d last → Whole d → InRange S1 S2 t → 0 < d.used.states → d.used.states < state_room d.memory → find d t ≡ None
      → Led S1 S2 d last t (add d t) d.used.states
  unfolding add_with tr_room_with expanded_with
  led_new d last t form whole ok any room e =
      let headed = form.headed any in
      record {
        form = add_form d form t ok room headed;
        whole = whole_add d form whole t room headed e;
        inside = omega arith;
        holds = add_holds d form t room headed;
        states = omega arith;
        trs = refl;
        room = refl;
        fresh = λ m h l. let z : m ≡ d.used.states = omega arith in (sym z, ap (λ k. state_field (add d t).memory.states k expanded_place) z ∙ add_new d form t room headed expanded_place (omega arith));
      }

  -- a state found
  pub led_old : (d : Store) (last : ℕ) (t : Triple) (n : ℕ) → Form S1 S2 d last → Whole d → find d t ≡ Some n → Led S1 S2 d last t d n
  led_old d last t n form whole e =
      let r = find_sound d form t n e in
      record { form = form; whole = whole; inside = r.0; holds = r.1; states = omega arith; trs = refl; room = refl; fresh = λ m h l. absurd (omega arith) }

  pub step_made : (d : Store) (last next : ℕ) (st : Step) (f : Store) (n : ℕ) → LinkOk d last next → d.used.trs < tr_room d.memory → Led S1 S2 d last st.to f n
      → StepMade S1 S2 d last next st (append f st n next)
  unfolding append target_at tr_next_at
  step_made d last next st f n link room k =
      let room' : f.used.trs < tr_room f.memory = omega (arith, k.trs, k.room, room) in
      let link' : LinkOk f last next = rw k.trs link in
      let new : (j : ℕ) → j < tr_size → tr_field (append f st n next).memory.trs d.used.trs j ≡ get_or (st.input ∷ st.output ∷ st.weight ∷ n ∷ next ∷ []) j 0
      = λ j h. ap (λ i. tr_field (append f st n next).memory.trs i j) (sym k.trs) ∙ append_new f k.form st n next k.inside room' link' j h in
      let to = new 3 (omega arith) in
      record {
        form = append_form f k.form st n next k.inside room' link';
        whole = whole_append f k.form k.whole st n next;
        states = k.states;
        trs = ap (λ i. i + 1) k.trs;
        made = record {
          inside = omega (arith, k.trs);
          input = new 0 (omega arith);
          output = new 1 (omega arith);
          weight = new 2 (omega arith);
          used = omega (arith, to, k.inside);
          target = ap (triple_at f.memory.states) to ∙ k.holds;
          next = new 4 (omega arith);
        };
        fresh = λ m h l. let r = k.fresh m h l in (to ∙ r.0, r.1);
      }

  one_step : (d : Store) (last next : ℕ) (st : Step) (e : Store) → Form S1 S2 d last → Whole d → InRange S1 S2 st.to → 0 < d.used.states → LinkOk d last next → store_step d next st ≡ good e
      → StepMade S1 S2 d last next st e
  unfolding store_step_with reach_with
  one_step d last next st e form whole ok any link g =
      let c = past_check (leb (tr_room d.memory) d.used.trs) 13 _ e g in
      let r = past_then (reached_by d st.to (find d st.to)) _ e c.1 in
      subst (StepMade S1 S2 d last next st) (good_is r.2) (step_made d last next st r.0.store r.0.state link (leb-false _ _ c.0) (go (find d st.to) r.0 refl r.1))
    where
      go : (o : Option ℕ) (r : Reached) → find d st.to ≡ o → reached_by d st.to o ≡ good r → Led S1 S2 d last st.to r.store r.state
      go (Some n) r f h = subst (λ (q : Reached). Led S1 S2 d last st.to q.store q.state) (good_is h) (led_old d last st.to n form whole f)
      go None r f h =
          let c = past_check (leb (state_room d.memory) d.used.states) 13 _ r h in
          subst (λ (q : Reached). Led S1 S2 d last st.to q.store q.state) (good_is c.1) (led_new d last st.to form whole ok any (leb-false _ _ c.0) f)

  -- the states that a step or those after it found
  module _ (d b e : Store) (last next : ℕ) (st : Step) (others : List Step) (k : StepMade S1 S2 d last next st b) (stay : Stays b e) (r : StepsMade S1 S2 b others e) (n : ℕ) (new : d.used.states ≤ n) (used : n < e.used.states) where
    join_target : Dec (n < b.used.states) → (i : ℕ) × (d.used.trs ≤ i) × (i < e.used.trs) × (target_at e.memory.trs i ≡ n)
    unfolding target_at
    join_target (yes l) = (d.used.trs, omega arith, omega (arith, k.trs, r.trs), stay_tr stay d.used.trs 3 (omega (arith, k.trs)) (omega arith) ∙ (k.fresh n new l).0)
    join_target (no l) = let q = r.targets n (omega arith) used in (q.0, omega (arith, k.trs, q.1), q.2, q.3)

    join_unexpanded : Dec (n < b.used.states) → expanded_at e.memory.states n ≡ 0
    unfolding expanded_with
    join_unexpanded (yes l) = stay_state stay n expanded_place l (omega arith) ∙ (k.fresh n new l).1
    join_unexpanded (no l) = r.unexpanded n (omega arith) used

  -- the first record leads to an old state or to the first new one; a later one is of the other steps
  module _ (d b e : Store) (last next : ℕ) (st : Step) (others : List Step) (k : StepMade S1 S2 d last next st b) (stay : Stays b e) (r : StepsMade S1 S2 b others e) (i n : ℕ) (from : d.used.trs ≤ i) (used : i < e.used.trs) (new : d.used.states ≤ n) (below : n < target_at e.memory.trs i) where
    first_target : target_at e.memory.trs d.used.trs ≡ target_at b.memory.trs d.used.trs
    unfolding target_at
    first_target = stay_tr stay d.used.trs 3 (omega (arith, k.trs)) (omega arith)

    join_order : Dec (i ≡ d.used.trs) → Dec (n < b.used.states) → (j : ℕ) × (d.used.trs ≤ j) × (j < i) × (target_at e.memory.trs j ≡ n)
    join_order (yes z) (yes l) = let t = ap (target_at e.memory.trs) z in absurd (omega (arith, below, t, first_target, (k.fresh n new l).0))
    join_order (yes z) (no l) = let t = ap (target_at e.memory.trs) z in absurd (omega (arith, below, t, first_target, k.made.used))
    join_order (no z) (yes l) = (d.used.trs, omega arith, omega arith, first_target ∙ (k.fresh n new l).0)
    join_order (no z) (no l) = let q = r.order i n (omega (arith, k.trs)) used (omega arith) below in (q.0, omega (arith, k.trs, q.1), q.2, q.3)

  -- every target in range, and `last` the number of records when all steps are stored
  pub steps_made : (d : Store) (last : ℕ) (steps : List Step) (e : Store) → Form S1 S2 d last → Whole d → ((st : Step) → In st steps → InRange S1 S2 st.to) → 0 < d.used.states
      → d.used.trs + length steps ≡ last → store_steps d (map good steps) ≡ good e → StepsMade S1 S2 d steps e
  unfolding store_steps_with
  steps_made d last [] e form whole ok any h g =
      let l : last ≡ d.used.trs = omega arith in
      subst (StepsMade S1 S2 d []) (good_is g)
      (record { form = rw l at form; whole = whole; states = omega arith; trs = omega arith; written = tt; targets = λ m a b. absurd (omega arith); unexpanded = λ m a b. absurd (omega arith); order = λ i m a b. absurd (omega arith) })
  steps_made d last (st ∷ others) e form whole ok any h g =
      let m = past_then (store_step d (next_for d (non_empty {A = Checked Step} (map good others))) st) _ e g in
      let b = m.0 in
      let link : LinkOk d last (next_for d (non_empty {A = Checked Step} (map good others))) = rw (any_good others) (link_ok d last others (omega arith)) in
      let k = one_step d last (next_for d (non_empty {A = Checked Step} (map good others))) st b form whole (ok st (here refl)) any link m.1 in
      let r = steps_made b last others e k.form k.whole (λ s i. ok s (there i)) (omega (arith, k.states, any)) (omega (arith, k.trs, h)) m.2 in
      let stay = steps_stay b (map good others) e m.2 in
      let made : IsTr e d.used.trs st (link_at d.used.trs (non_empty others)) = subst (IsTr e d.used.trs st) (ap (next_for d) (any_good others) ∙ next_link d (non_empty others)) (is_tr_stays stay d.used.trs st _ k.made) in
      record {
        form = r.form;
        whole = r.whole;
        states = omega (arith, k.states, r.states);
        trs = omega (arith, k.trs, r.trs);
        written = (made, subst (λ i. Written e i others) (k.trs ∙ omega arith) r.written);
        targets = λ n a l. join_target d b e last (next_for d (non_empty {A = Checked Step} (map good others))) st others k stay r n a l (dec_lt n b.used.states);
        unexpanded = λ n a l. join_unexpanded d b e last (next_for d (non_empty {A = Checked Step} (map good others))) st others k stay r n a l (dec_lt n b.used.states);
        order = λ i n a l x y. join_order d b e last (next_for d (non_empty {A = Checked Step} (map good others))) st others k stay r i n a l x y (ℕ_discrete i d.used.trs) (dec_lt n b.used.states);
      }
