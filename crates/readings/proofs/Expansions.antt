-- An accepted expansion of an unexpanded state: the world grows, and stays sound. Its new records are the state's list, its new states are targets of them, and all else stays.
use mathlib.Core.Path.{◌≡◌, refl, sym, ◌∙◌, ap, subst}
use mathlib.Core.List.{[], ◌∷◌, Memᴰ as In}
use mathlib.Core.Logic.{◌⊎◌, inl, inr, ⊎_elim, ◌≢◌}
use Prim.Native.Nat.{ℕ, suc, ◌+◌, ◌-◌, ◌*◌, ◌≤◌, ◌<◌}
use native.Mathlib.Omega.{arith}
use native.Mathlib.Decide.{ℕ_discrete, dec_lt}
use Rattle.lists.specs.Lists.{interval}
use Rattle.lists.proofs.Members.{in_interval}
use Rattle.lists.proofs.Places.{at_length}
use Rattle.lists.proofs.Put.{length_put}
use Rattle.words.specs.Labels.{good}
use Rattle.words.specs.Steps.{Composition, Step, steps_at}
use Rattle.words.specs.Settings.{Lent}
use Rattle.calls.specs.Store.{Memory, Store, state_size, tr_size, triple_at, expanded_place, expanded_at, tr_field, target_at, Part, expanded_with, field_of, first_with, mark_with}
use Rattle.calls.specs.Checks.{Session, store_of, entered}
use Rattle.calls.specs.Calls.{store_steps, new_part}
use Rattle.calls.specs.Sequences.{World}
use Rattle.calls.proofs.ExpandKept.{Entered, entered_is}
use Rattle.calls.proofs.FindLaws.{whole_distinct}
use Rattle.calls.proofs.StepsMade.{IsTr, written_at, stay_triple}
use Rattle.calls.proofs.Parts.{some_first, in_new, of_new}
use Rattle.calls.proofs.ExpandMade.{marked_by, ExpandMade, expand_made_lem}
use Rattle.readings.specs.Worlds.{Expanded, part_in, records_in, state_at, target_of, Found, at_start, as_target, IsRecord, IsList, Sound}
use Rattle.readings.proofs.Grows.{KeptWorld, Grows}

-- a record of an earlier world in a later one, and a list
module _ (l : Lent) (c : Composition) (w v : World) (sound : Sound l c w) (g : Grows w v) where
  old_field_lem : (r k : ℕ) → 0 < r → r ≤ w.session.used.trs → k < tr_size → tr_field v.memory.trs (r - 1) k ≡ tr_field w.memory.trs (r - 1) k
  unfolding field_of
  old_field_lem r k h i j = g.word (tr_size * (r - 1) + k) (omega arith)

  old_target : (r : ℕ) → 0 < r → r ≤ w.session.used.trs → target_of v r ≡ target_of w r
  unfolding target_at
  old_target r h i = old_field_lem r 3 h i (omega arith)

  old_records : (n : ℕ) → Expanded w n → records_in v n ≡ records_in w n
  old_records n x = ap (λ (p : Part). interval p.first p.count) (g.part n x)

  old_record : (r : ℕ) (st : Step) → 0 < r → r ≤ w.session.used.trs → IsRecord w r st → IsRecord v r st
  old_record r st h i q =
      let t = old_target r h i in
      record {
        input = old_field_lem r 0 h i (omega arith) ∙ q.input;
        output = old_field_lem r 1 h i (omega arith) ∙ q.output;
        weight = old_field_lem r 2 h i (omega arith) ∙ q.weight;
        used = omega (arith, t, q.used, g.states);
        target = ap (state_at v) t ∙ (g.state (target_of w r) q.used ∙ q.target);
      }

  old_list : (n : ℕ) → Expanded w n → IsList c v n
  old_list n x =
      let q = sound.lists n x in
      let p = g.part n x in
      record {
        steps = q.steps;
        moves = ap (steps_at c) (g.state n x.0) ∙ q.moves;
        count = ap (λ (o : Part). o.count) p ∙ q.count;
        record_of = λ k st a.
            let f = (part_in w n).first in
            let b = (sound.listed (f + k)).1 (n, x, in_interval f (part_in w n).count (f + k) (omega arith) (omega (arith, at_length q.steps k a, q.count))) in
            subst (λ (o : Part). IsRecord v (o.first + k) st) (sym p) (old_record (f + k) st b.0 b.1 (q.record_of k st a));
      }

module _ (l : Lent) (c : Composition) (s : Session) (m : Memory) (kept : KeptWorld l c (record { session = s; memory = m })) (n : ℕ) (found : n < s.used.states)
    (e : Store) (stored : store_steps (store_of s m) (steps_at c (triple_at m.states n)) ≡ good e) (bare : expanded_at m.states n ≢ 1) where
  abbrev w : World
  w = record { session = s; memory = m }

  abbrev d : Store
  d = store_of s m

  mades : ExpandMade l c s m n e
  mades = expand_made_lem l c s m kept.sound.enters kept.whole n found e stored

  open mades use {steps, moves, made, stays, field_other, part_it}

  abbrev f : Store
  f = marked_by s n e

  -- the world after it
  abbrev v : World
  v = record { session = record { settings = s.settings; side = s.side; used = f.used }; memory = f.memory }

  others : (k : ℕ) → Expanded w k → k ≢ n
  others k x z = bare (subst (λ j. expanded_at m.states j ≡ 1) z x.1)

  grows : Grows w v
  unfolding mark_with expanded_with first_with
  grows = record {
    states = made.states;
    trs = stays.trs;
    states_length = length_put e.memory.states (state_size * n + expanded_place) (1 ∷ (new_part s.used e.used).first ∷ []) ∙ stays.states_length;
    trs_length = stays.trs_length;
    state = λ k h. mades.triple k ∙ stay_triple stays k h;
    expanded = λ k x. (omega (arith, x.0, made.states), field_other k expanded_place x.0 (others k x) (omega arith) ∙ x.1);
    part = λ k x. mades.part_other k x.0 (others k x);
    word = λ i h. stays.tr_word_lem i (inl h);
  }

  -- the state is expanded, and its list is the part of the new records
  expanded_it : Expanded v n
  unfolding mark_with
  expanded_it = (omega (arith, found, made.states), mades.expanded)

  -- no other state became expanded
  expanded_cases : (k : ℕ) → Expanded v k → (k ≡ n) ⊎ Expanded w k
  unfolding mark_with expanded_with
  expanded_cases k x = go (ℕ_discrete k n) (dec_lt k s.used.states)
    where
      go : Dec (k ≡ n) → Dec (k < s.used.states) → (k ≡ n) ⊎ Expanded w k
      go (yes z) q = inl z
      go (no z) (yes h) = inr (h, sym (field_other k expanded_place h z (omega arith)) ∙ x.1)
      go (no z) (no h) = let a = made.unexpanded k (omega arith) x.0 in let b = mades.other k expanded_place z (omega arith) in absurd (omega (arith, a, b, x.1))

  -- a record of a list is new and the state's, or was in the same list before
  record_cases : (k r : ℕ) → Expanded v k → In r (records_in v k) → ((k ≡ n) × (s.used.trs < r) × (r ≤ e.used.trs)) ⊎ (Expanded w k × In r (records_in w k))
  record_cases k r x i = ⊎_elim (λ z. inl (z, (new z).0, (new z).1)) (λ y. inr (y, subst (λ o. In r o) (old_records l c w v kept.sound grows k y) i)) (expanded_cases k x)
    where
      new : k ≡ n → (s.used.trs < r) × (r ≤ e.used.trs)
      new z = of_new s.used e.used stays.trs (subst (λ (o : Part). In r (interval o.first o.count)) (ap (part_in v) z ∙ part_it) i)

  in_it : (r : ℕ) → s.used.trs < r → r ≤ e.used.trs → In r (records_in v n)
  in_it r h i = subst (λ (o : Part). In r (interval o.first o.count)) (sym part_it) (in_new s.used e.used stays.trs r h i)

  used_record : (k r : ℕ) → Expanded v k → In r (records_in v k) → (0 < r) × (r ≤ e.used.trs)
  used_record k r x i =
      ⊎_elim (λ y. (omega (arith, y.1), y.2)) (λ y. let q = (kept.sound.listed r).1 (k, y.0, y.1) in (q.0, omega (arith, q.1, stays.trs))) (record_cases k r x i)

  listed : (r : ℕ) → (0 < r) × (r ≤ e.used.trs) → (k : ℕ) × Expanded v k × In r (records_in v k)
  listed r h = go (dec_lt s.used.trs r)
    where
      go : Dec (s.used.trs < r) → (k : ℕ) × Expanded v k × In r (records_in v k)
      go (yes x) = (n, expanded_it, in_it r x h.1)
      go (no x) = let q = (kept.sound.listed r).0 (h.0, omega arith) in (q.0, grows.expanded q.0 q.1, subst (λ o. In r o) (sym (old_records l c w v kept.sound grows q.0 q.1)) q.2)

  alone : (r j k : ℕ) → Expanded v j → Expanded v k → In r (records_in v j) → In r (records_in v k) → j ≡ k
  alone r j k x y a b = go (record_cases j r x a) (record_cases k r y b)
    where
      go : ((j ≡ n) × (s.used.trs < r) × (r ≤ e.used.trs)) ⊎ (Expanded w j × In r (records_in w j)) → ((k ≡ n) × (s.used.trs < r) × (r ≤ e.used.trs)) ⊎ (Expanded w k × In r (records_in w k)) → j ≡ k
      go (inl p) (inl q) = p.0 ∙ sym q.0
      go (inl p) (inr q) = let z = (kept.sound.listed r).1 (k, q.0, q.1) in absurd (omega (arith, p.1, z.1))
      go (inr p) (inl q) = let z = (kept.sound.listed r).1 (j, p.0, p.1) in absurd (omega (arith, q.1, z.1))
      go (inr p) (inr q) = kept.sound.alone r j k p.0 q.0 p.1 q.1

  -- what was found is found
  carried : (k : ℕ) → Found c w k → Found c v k
  carried k (at_start _ t h z) = at_start k t h z
  carried k (as_target _ j r f x i h) =
      let b = (kept.sound.listed r).1 (j, x, i) in
      as_target k j r (carried j f) (grows.expanded j x) (subst (λ o. In r o) (sym (old_records l c w v kept.sound grows j x)) i) (old_target l c w v kept.sound grows r b.0 b.1 ∙ h)

  -- a used state is an old one, or a target of a new record
  found_to : (k : ℕ) → k < e.used.states → Found c v k
  unfolding mark_with
  found_to k h = go (dec_lt k s.used.states)
    where
      go : Dec (k < s.used.states) → Found c v k
      go (yes x) = carried k ((kept.sound.found k).0 x)
      go (no x) =
          let q = made.targets k (omega arith) h in
          let i : suc q.0 - 1 ≡ q.0 = omega arith in
          as_target k n (suc q.0) (carried n ((kept.sound.found n).0 found)) expanded_it (in_it (suc q.0) (omega (arith, q.1)) (omega (arith, q.2))) (ap (target_at e.memory.trs) i ∙ q.3)

  found_back : Entered l v.session v.memory c → (k : ℕ) → Found c v k → k < e.used.states
  unfolding mark_with
  found_back q k (at_start _ t h z) = let a = (kept.sound.found 0).1 (at_start 0 t h refl) in omega (arith, a, z, made.states)
  found_back q k (as_target _ j r f x i h) = let b = used_record j r x i in let a = (q.form.tr (r - 1) (omega (arith, b.0, b.1))).target in omega (arith, a, h)

  -- a new record that leads to a state: a smaller number is an old state's, which has an old record, or a new one's
  order : (r k : ℕ) → 0 < r → r ≤ e.used.trs → 0 < k → k < target_of v r → (q : ℕ) × (0 < q) × (q < r) × (target_of v q ≡ k)
  unfolding mark_with
  order r k h i j below = go (dec_lt s.used.trs r) (dec_lt k s.used.states)
    where
      old : s.used.trs < r → Found c w k → (q : ℕ) × (0 < q) × (q < r) × (target_of v q ≡ k)
      old x (at_start _ t a z) = absurd (omega (arith, z, j))
      old x (as_target _ o q f y a z) = let b = (kept.sound.listed q).1 (o, y, a) in (q, b.0, omega (arith, b.1, x), old_target l c w v kept.sound grows q b.0 b.1 ∙ z)

      go : Dec (s.used.trs < r) → Dec (k < s.used.states) → (q : ℕ) × (0 < q) × (q < r) × (target_of v q ≡ k)
      go (no x) y =
          let t = old_target l c w v kept.sound grows r h (omega arith) in
          let q = kept.sound.order r k h (omega arith) j (omega (arith, below, t)) in
          (q.0, q.1, q.2, old_target l c w v kept.sound grows q.0 q.1 (omega (arith, q.2)) ∙ q.3)
      go (yes x) (yes y) = old x ((kept.sound.found k).0 y)
      go (yes x) (no y) =
          let q = made.order (r - 1) k (omega arith) (omega arith) (omega arith) below in
          let z : suc q.0 - 1 ≡ q.0 = omega arith in
          (suc q.0, omega arith, omega (arith, q.2), ap (target_at e.memory.trs) z ∙ q.3)

  -- the state's list: record by record, the kept moves
  list_it : IsList c v n
  unfolding mark_with
  list_it = record {
    steps = steps;
    moves = ap (steps_at c) (grows.state n found) ∙ moves;
    count = ap (λ (o : Part). o.count) part_it ∙ omega (arith, made.trs);
    record_of = λ k st a.
        let some' : e.used.trs ≢ s.used.trs = λ z. omega (arith, z, made.trs, at_length steps k a) in
        let first : (part_in v n).first ≡ s.used.trs + 1 = ap (λ (o : Part). o.first) part_it ∙ some_first s.used e.used stays.trs some' in
        let r = written_at e s.used.trs steps k st made.written a in
        let i : (part_in v n).first + k - 1 ≡ s.used.trs + k = omega (arith, first) in
        is_record ((part_in v n).first + k) st (subst (λ j. IsTr e j st r.0) (sym i) r.1);
  }
    where
      is_record : (r : ℕ) (st : Step) {link : ℕ} → IsTr e (r - 1) st link → IsRecord v r st
      is_record r st q = record {
        input = q.input;
        output = q.output;
        weight = q.weight;
        used = q.used;
        target = mades.triple (target_at e.memory.trs (r - 1)) ∙ q.target;
      }

  lists : (k : ℕ) → Expanded v k → IsList c v k
  lists k x = ⊎_elim (λ z. subst (IsList c v) (sym z) list_it) (λ y. old_list l c w v kept.sound grows k y) (expanded_cases k x)

  -- where the checks 1 to 8 pass after it, all is kept
  pub expansion_keeps : entered l v.session v.memory ≡ good c → KeptWorld l c v
  unfolding mark_with
  expansion_keeps q =
      record {
        whole = mades.whole;
        sound = record {
          enters = q;
          found = λ k. (found_to k, found_back (entered_is l v.session v.memory c q) k);
          listed = λ r. (listed r, λ a. used_record a.0 r a.1 a.2);
          alone = alone;
          distinct = whole_distinct f mades.whole;
          start = λ t h. grows.state 0 (omega (arith, found)) ∙ kept.sound.start t h;
          order = order;
          lists = lists;
        };
      }

  pub expansion_grows : Grows w v
  expansion_grows = grows

  -- no other state became expanded
  pub expansion_only : (k : ℕ) → Expanded v k → (k ≡ n) ⊎ Expanded w k
  expansion_only = expanded_cases

  pub expansion_lists : Expanded v n × (part_in v n ≡ new_part s.used e.used)
  expansion_lists = (expanded_it, part_it)
