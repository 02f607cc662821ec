-- Two stores of one content, the second with no less room; heads and chains may differ. The steps of an expansion leave such a pair again, or are refused by one number in both, or
-- by 13 in the smaller.
use mathlib.Core.Path.{◌≡◌, refl, sym, ◌∙◌, ap, subst}
use mathlib.Core.Bool.{Bool, true, false}
use mathlib.Core.List.Memᴰ.{head as here}
use mathlib.Core.List.Memᴰ.{tail as there}
use mathlib.Core.List.{List, [], ◌∷◌, ◌++◌, Memᴰ as In}
use mathlib.Core.Logic.{◌⊎◌, inl, inr}
use Rattle.std.specs.Prelude.{Option, None, Some}
use Prim.Native.Nat.{ℕ, suc, ◌+◌, ◌-◌, ◌*◌, ◌≤◌, ◌<◌}
use native.Mathlib.Omega.{arith}
use native.Mathlib.Decide.{ℕ_discrete, dec_lt}
use lib.Dec.{leb}
use lib.ListN.{length, get_or, get_or-append}
use borrow.Author.Tests.{leb-false, lt-leb}
use Rattle.lists.specs.Lists.{put}
use Rattle.lists.proofs.Put.{put_before, put_in}
use Rattle.words.specs.Labels.{Checked, good, refused}
use Rattle.words.specs.Sides.{non_empty}
use Rattle.words.specs.Steps.{Triple, Step}
use Rattle.words.proofs.StepRange.{InRange}
use Rattle.calls.specs.Store.{Store, state_size, tr_size, state_room, tr_room, state_field, triple_at, expanded_place, head_of, find, triple_words, state_record, add, tr_record, append, mark, add_with, expanded_with, field_of, first_with, mark_with, state_room_with, tr_room_with}
use Rattle.calls.specs.Calls.{store_step, next_for, store_steps, reach_with, store_step_with, store_steps_with}
use Rattle.calls.proofs.RecordLaws.{first_place, next_place, room_words, room_same, triple_same}
use Rattle.calls.proofs.StoreForms.{Form}
use Rattle.calls.proofs.ChainLaws.{find_sound, add_field, add_new}
use Rattle.calls.proofs.FormKept.{add_form, append_form, mark_other, mark_expanded, mark_first}
use Rattle.calls.proofs.StepsStay.{Stays, add_stays, append_stays, mark_stays}
use Rattle.calls.proofs.FindLaws.{Whole, whole_add, whole_append, find_alike}
use Rattle.calls.proofs.StepsKept.{LinkOk, link_ok}

-- the used records hold the same words, but for the links of states
pub record Alike (d e : Store) : Type 0 where
  pub states : e.used.states ≡ d.used.states
  pub trs : e.used.trs ≡ d.used.trs
  pub state : (n k : ℕ) → n < d.used.states → k < next_place → state_field e.memory.states n k ≡ state_field d.memory.states n k
  pub word : (i : ℕ) → i < tr_size * d.used.trs → get_or e.memory.trs i 0 ≡ get_or d.memory.trs i 0

pub record Roomier (d e : Store) : Type 0 where
  pub states : state_room d.memory ≤ state_room e.memory
  pub trs : tr_room d.memory ≤ tr_room e.memory

pub record Twin (S1 S2 last : ℕ) (d e : Store) : Type 0 where
  pub form1 : Form S1 S2 d last
  pub form2 : Form S1 S2 e last
  pub whole1 : Whole d
  pub whole2 : Whole e
  pub alike : Alike d e
  pub room : Roomier d e
  pub any : 0 < d.used.states

pub alike_triple : (d e : Store) → Alike d e → (n : ℕ) → n < d.used.states → triple_at e.memory.states n ≡ triple_at d.memory.states n
alike_triple d e a n h = triple_same d.memory.states e.memory.states n n (λ k i. a.state n k h (omega arith))

-- a record written in the first unused place of two slices
pub written : (size : ℕ) (l r rec : List ℕ) (t u : ℕ) → u ≡ t → length rec ≡ size → size * t + size ≤ length l → size * u + size ≤ length r → ((i : ℕ) → i < size * t → get_or r i 0 ≡ get_or l i 0)
    → (i : ℕ) → i < size * (t + 1) → get_or (put r (size * u) rec) i 0 ≡ get_or (put l (size * t) rec) i 0
written size l r rec t u z whole a b same i h = go (dec_lt i (size * t))
  where
    at : size * u ≡ size * t
    at = ap (λ n. size * n) z

    go : Dec (i < size * t) → get_or (put r (size * u) rec) i 0 ≡ get_or (put l (size * t) rec) i 0
    go (yes x) = put_before r (size * u) rec i 0 (omega (arith, at, x)) ∙ (same i x ∙ sym (put_before l (size * t) rec i 0 x))
    go (no x) =
        let j = i - size * t in
        let p : i ≡ size * u + j = omega (arith, at) in
        let q : i ≡ size * t + j = omega arith in
        let k : j < length rec = omega (arith, whole, h) in
        ap (λ y. get_or (put r (size * u) rec) y 0) p ∙ (put_in r (size * u) rec j 0 k (omega (arith, whole, b)) ∙ sym (ap (λ y. get_or (put l (size * t) rec) y 0) q ∙ put_in l (size * t) rec j 0 k (omega (arith, whole, a))))

-- the words of a new state's record but for its link
pub new_words : (t : Triple) (next k : ℕ) → k < next_place → get_or (state_record t next) k 0 ≡ get_or (triple_words t ++ (0 ∷ 0 ∷ [])) k 0
new_words t next k h = get_or-append (triple_words t ++ (0 ∷ 0 ∷ [])) (next ∷ []) 0 k h

-- room depends on lengths, which stay
pub roomier_stays : (d e d' e' : Store) → Stays d d' → Stays e e' → Roomier d e → Roomier d' e'
unfolding state_room_with tr_room_with
roomier_stays d e d' e' a b r = record {
  states = rw (room_same state_size d.memory.states d'.memory.states a.states_length, room_same state_size e.memory.states e'.memory.states b.states_length) r.states;
  trs = rw (room_same tr_size d.memory.trs d'.memory.trs a.trs_length, room_same tr_size e.memory.trs e'.memory.trs b.trs_length) r.trs;
}

-- one step in both: 13 in the smaller, or both go on
abbrev Step2 : ℕ → ℕ → ℕ → ℕ → Checked Store → Checked Store → Type 0
Step2 S1 S2 last used x y = (x ≡ refused 13) ⊎ ((d : Store) × (e : Store) × (x ≡ good d) × (y ≡ good e) × Twin S1 S2 last d e × (d.used.trs ≡ used + 1))

-- all steps in both: or both are refused by one number
abbrev pub Steps2 : ℕ → ℕ → ℕ → Checked Store → Checked Store → Type 0
Steps2 S1 S2 last x y = (x ≡ refused 13) ⊎ (((k : ℕ) × (x ≡ refused k) × (y ≡ refused k)) ⊎ ((d : Store) × (e : Store) × (x ≡ good d) × (y ≡ good e) × Twin S1 S2 last d e))

pub next_alike : (d e : Store) (b : Bool) → e.used.trs ≡ d.used.trs → next_for e b ≡ next_for d b
next_alike d e true h = ap (λ n. n + 2) h
next_alike d e false h = refl

module _ {S1 S2 : ℕ} (last : ℕ) where
  module _ (d e : Store) (w : Twin S1 S2 last d e) where
    twin_find : (t : Triple) → find e t ≡ find d t
    twin_find t = find_alike d e w.form1 w.form2 w.whole1 w.whole2 (sym w.alike.states) (alike_triple d e w.alike) t

    -- a new state
    module _ (t : Triple) (ok : InRange S1 S2 t) (room : d.used.states < state_room d.memory) (f : find d t ≡ None) where
      room2 : e.used.states < state_room e.memory
      room2 = omega (arith, w.alike.states, w.room.states, room)

      headed1 : 0 < length d.memory.heads
      headed1 = w.form1.headed w.any

      headed2 : 0 < length e.memory.heads
      headed2 = w.form2.headed (omega (arith, w.alike.states, w.any))

      add_alike : (n k : ℕ) → n < d.used.states + 1 → k < next_place → Dec (n < d.used.states) → state_field (add e t).memory.states n k ≡ state_field (add d t).memory.states n k
      add_alike n k h l (yes x) =
          add_field e w.form2 t room2 headed2 n k (omega (arith, w.alike.states, x)) (omega arith)
          ∙ (w.alike.state n k x l ∙ sym (add_field d w.form1 t room headed1 n k x (omega arith)))
      add_alike n k h l (no x) =
          let p : n ≡ e.used.states = omega (arith, w.alike.states) in
          let q : n ≡ d.used.states = omega arith in
          ap (λ j. state_field (add e t).memory.states j k) p
          ∙ (add_new e w.form2 t room2 headed2 k (omega arith)
          ∙ (new_words t (head_of e.memory.heads t) k l
          ∙ sym (ap (λ j. state_field (add d t).memory.states j k) q ∙ (add_new d w.form1 t room headed1 k (omega arith) ∙ new_words t (head_of d.memory.heads t) k l))))

      twin_add : Twin S1 S2 last (add d t) (add e t)
      unfolding add_with
      twin_add = record {
        form1 = add_form d w.form1 t ok room headed1;
        form2 = add_form e w.form2 t ok room2 headed2;
        whole1 = whole_add d w.form1 w.whole1 t room headed1 f;
        whole2 = whole_add e w.form2 w.whole2 t room2 headed2 (twin_find t ∙ f);
        alike = record { states = ap (λ n. n + 1) w.alike.states; trs = w.alike.trs; state = λ n k h l. add_alike n k h l (dec_lt n d.used.states); word = w.alike.word };
        room = roomier_stays d e (add d t) (add e t) (add_stays d t) (add_stays e t) w.room;
        any = omega arith;
      }

    -- a new transition
    twin_append : (st : Step) (target next : ℕ) → target < d.used.states → d.used.trs < tr_room d.memory → LinkOk d last next → Twin S1 S2 last (append d st target next) (append e st target next)
    unfolding append tr_room_with
    twin_append st target next used room link =
        let room2 : e.used.trs < tr_room e.memory = omega (arith, w.alike.trs, w.room.trs, room) in
        let a = room_words tr_size d.memory.trs (suc d.used.trs) room in
        let b = room_words tr_size e.memory.trs (suc e.used.trs) room2 in
        record {
          form1 = append_form d w.form1 st target next used room link;
          form2 = append_form e w.form2 st target next (omega (arith, w.alike.states, used)) room2 (rw w.alike.trs link);
          whole1 = whole_append d w.form1 w.whole1 st target next;
          whole2 = whole_append e w.form2 w.whole2 st target next;
          alike = record {
            states = w.alike.states;
            trs = ap (λ n. n + 1) w.alike.trs;
            state = w.alike.state;
            word = written tr_size d.memory.trs e.memory.trs (tr_record st target next) d.used.trs e.used.trs w.alike.trs refl (omega (arith, a.1)) (omega (arith, b.1)) w.alike.word;
          };
          room = roomier_stays d e (append d st target next) (append e st target next) (append_stays d st target next) (append_stays e st target next) w.room;
          any = w.any;
        }

  -- a transition to a new state
  twin_new : (d e : Store) → Twin S1 S2 last d e → (next : ℕ) (st : Step) → InRange S1 S2 st.to → LinkOk d last next → d.used.trs < tr_room d.memory → d.used.states < state_room d.memory → find d st.to ≡ None
      → Twin S1 S2 last (append (add d st.to) st d.used.states next) (append (add e st.to) st d.used.states next)
  unfolding add_with tr_room_with
  twin_new d e w next st ok link more room f = twin_append (add d st.to) (add e st.to) (twin_add d e w st.to ok room f) st d.used.states next (omega arith) more link

  one_step : (d e : Store) → Twin S1 S2 last d e → (next : ℕ) (st : Step) → InRange S1 S2 st.to → LinkOk d last next → Step2 S1 S2 last d.used.trs (store_step d next st) (store_step e next st)
  unfolding store_step_with reach_with append add_with
  one_step d e w next st ok link = go (leb (tr_room d.memory) d.used.trs) refl
    where
      more : leb (tr_room d.memory) d.used.trs ≡ false → leb (tr_room e.memory) e.used.trs ≡ false
      more p = let q = leb-false (tr_room d.memory) d.used.trs p in lt-leb (tr_room e.memory) e.used.trs (omega (arith, q, w.alike.trs, w.room.trs))

      new : (b : Bool) → leb (tr_room d.memory) d.used.trs ≡ false → find d st.to ≡ None → leb (state_room d.memory) d.used.states ≡ b → Step2 S1 S2 last d.used.trs (store_step d next st) (store_step e next st)
      new true p f q = inl (rw (p, f, q))
      new false p f q =
          let room : d.used.states < state_room d.memory = leb-false _ _ q in
          let q2 : leb (state_room e.memory) e.used.states ≡ false = lt-leb (state_room e.memory) e.used.states (omega (arith, room, w.alike.states, w.room.states)) in
          let y : store_step e next st ≡ good (append (add e st.to) st e.used.states next) = rw (more p, twin_find d e w st.to, f, q2) in
          inr (
            append (add d st.to) st d.used.states next,
            append (add e st.to) st d.used.states next,
            rw (p, f, q),
            y ∙ ap (λ n. good (append (add e st.to) st n next)) w.alike.states,
            twin_new d e w next st ok link (leb-false _ _ p) room f,
            refl,
          )

      found : (o : Option ℕ) → leb (tr_room d.memory) d.used.trs ≡ false → find d st.to ≡ o → Step2 S1 S2 last d.used.trs (store_step d next st) (store_step e next st)
      found None p f = new (leb (state_room d.memory) d.used.states) p f refl
      found (Some n) p f =
          inr (append d st n next, append e st n next, rw (p, f), rw (more p, twin_find d e w st.to, f), twin_append d e w st n next (find_sound d w.form1 st.to n f).0 (leb-false _ _ p) link, refl)

      go : (b : Bool) → leb (tr_room d.memory) d.used.trs ≡ b → Step2 S1 S2 last d.used.trs (store_step d next st) (store_step e next st)
      go true p = inl (rw p)
      go false p = found (find d st.to) p refl

  pub steps_alike : (steps : List (Checked Step)) (d e : Store) → Twin S1 S2 last d e → ((st : Step) → In (good st) steps → InRange S1 S2 st.to) → d.used.trs + length steps ≤ last
      → Steps2 S1 S2 last (store_steps d steps) (store_steps e steps)
  unfolding store_steps_with
  steps_alike [] d e w ok h = inr (inr (d, e, refl, refl, w))
  steps_alike (refused k ∷ others) d e w ok h = inr (inl (k, refl, refl))
  steps_alike (good st ∷ others) d e w ok h =
      go (one_step d e w (next_for d (non_empty others)) st (ok st (here refl)) (link_ok d last others h)) (λ d' e' w' x. steps_alike others d' e' w' (λ s i. ok s (there i)) x)
    where
      next2 : next_for e (non_empty others) ≡ next_for d (non_empty others)
      next2 = next_alike d e (non_empty others) w.alike.trs

      go : Step2 S1 S2 last d.used.trs (store_step d (next_for d (non_empty others)) st) (store_step e (next_for d (non_empty others)) st)
          → ((d' e' : Store) → Twin S1 S2 last d' e' → d'.used.trs + length others ≤ last → Steps2 S1 S2 last (store_steps d' others) (store_steps e' others))
          → Steps2 S1 S2 last (store_steps d (good st ∷ others)) (store_steps e (good st ∷ others))
      go (inl x) rec = inl (rw x)
      go (inr x) rec = rw (next2, x.2, x.3) (rec x.0 x.1 x.4 (omega (arith, x.5, h)))

-- a mark in both
pub mark_alike : {S1 S2 : ℕ} (d e : Store) {last more : ℕ} → Form S1 S2 d last → Form S1 S2 e more → (n first : ℕ) → n < d.used.states → first ≤ d.used.trs → Alike d e → Alike (mark d n first) (mark e n first)
unfolding mark_with field_of expanded_with first_with
mark_alike d e f1 f2 n first used low a = record { states = a.states; trs = a.trs; state = λ m k h l. go m k h l (ℕ_discrete m n); word = a.word }
  where
    used2 : n < e.used.states
    used2 = omega (arith, a.states, used)

    low2 : first ≤ e.used.trs
    low2 = omega (arith, a.trs, low)

    own : (k : ℕ) → k < next_place → Dec (k < expanded_place) → Dec (k ≡ expanded_place) → state_field (mark e n first).memory.states n k ≡ state_field (mark d n first).memory.states n k
    own k h (yes x) y = mark_stays e n first (state_size * n + k) (inl (omega arith)) ∙ (a.state n k used h ∙ sym (mark_stays d n first (state_size * n + k) (inl (omega arith))))
    own k h (no x) (yes y) = rw y (mark_expanded e f2 n first used2 low2 ∙ sym (mark_expanded d f1 n first used low))
    own k h (no x) (no y) = let z : k ≡ first_place = omega (arith, y) in rw z (mark_first e f2 n first used2 low2 ∙ sym (mark_first d f1 n first used low))

    go : (m k : ℕ) → m < d.used.states → k < next_place → Dec (m ≡ n) → state_field (mark e n first).memory.states m k ≡ state_field (mark d n first).memory.states m k
    go m k h l (yes z) = subst (λ j. state_field (mark e n first).memory.states j k ≡ state_field (mark d n first).memory.states j k) (sym z) (own k l (dec_lt k expanded_place) (ℕ_discrete k expanded_place))
    go m k h l (no z) = mark_other e f2 n first used2 low2 m k z (omega arith) ∙ (a.state m k h l ∙ sym (mark_other d f1 n first used low m k z (omega arith)))
