-- A copy into longer slices: a store in form holds and finds there what it did, and what a call writes it writes at the same places. So an accepted opening or expansion in the copy
-- leaves the copy of what it left.
use mathlib.Core.Path.{◌≡◌, refl, sym, ◌∙◌, ap, subst}
use mathlib.Core.List.Memᴰ.{head as here}
use mathlib.Core.List.Memᴰ.{tail as there}
use mathlib.Core.List.{List, [], ◌∷◌, ◌++◌, Memᴰ as In}
use mathlib.Core.Logic.{◌≢◌}
use Rattle.std.specs.Prelude.{Option, None, Some}
use Prim.Native.Nat.{ℕ, suc, ◌+◌, ◌*◌, ◌≤◌, ◌<◌}
use native.Mathlib.Omega.{arith}
use lib.Dec.{leb}
use lib.ListN.{length, length-append, get_or-append}
use borrow.Author.Tests.{leb-false, lt-leb}
use Rattle.lists.proofs.Put.{put_append}
use Rattle.words.specs.Labels.{Checked, good, refused}
use Rattle.words.specs.Sides.{non_empty}
use Rattle.words.specs.Steps.{Composition, Triple, Step, steps_at}
use Rattle.words.specs.Settings.{Settings, Lent}
use Rattle.words.proofs.CheckedLaws.{good≢refused, good_is, past_check, past_then}
use Rattle.words.proofs.StepRange.{InRange}
use Rattle.calls.specs.Store.{Memory, Store, state_size, tr_size, room_of, state_room, tr_room, state_field, triple_at, expanded_place, expanded_at, target_at, tr_next_at, head_of, find, state_record, add, tr_record, append, mark, Part, part_at, add_with, expanded_with, field_of, first_with, mark_with, next_with, state_room_with, tr_room_with}
use Rattle.calls.specs.Checks.{Session, store_of, entered}
use Rattle.calls.specs.Calls.{Outcome, cleared, open_of, Reached, reached_by, reach, store_step, next_for, store_steps, new_part, expand_of, reach_with, store_step_with, store_steps_with}
use Rattle.calls.specs.Owned.{lengthened}
use Rattle.calls.proofs.RecordLaws.{first_place, next_place, room_words, room_more}
use Rattle.calls.proofs.StoreForms.{Form}
use Rattle.calls.proofs.ChainLaws.{find_same}
use Rattle.calls.proofs.FormKept.{moved}
use Rattle.calls.proofs.StepsKept.{reach_kept, step_kept, steps_kept, link_ok, longer}
use Rattle.calls.proofs.ExpandKept.{Entered, entered_is, is_entered, steps_range}
use Rattle.calls.proofs.Parts.{part_alike}
use Rattle.calls.proofs.ExpandCases.{stayed, stored, by_expand, expand_old, expand_stored}
use Rattle.calls.proofs.OpenCases.{opened_as, by_open, open_empty, open_begun}
use Rattle.calls.proofs.TwoStores.{Alike, Roomier, alike_triple, next_alike}

-- a longer slice has no less room
room_append : (size : ℕ) (l r : List ℕ) → room_of size l ≤ room_of size (l ++ r)
room_append size l r = room_more size l (l ++ r) (omega (arith, length-append l r))

module _ (xs ys : List ℕ) where
  -- a store, and what a call leaves, with a copy of its memory
  abbrev copy_of : Store → Store
  copy_of d = record { memory = lengthened xs ys d.memory; used = d.used }

  abbrev pub copy_left : {A : Type 0} → Outcome A → Outcome A
  copy_left o = record { answer = o.answer; session = o.session; memory = lengthened xs ys o.memory }

  -- a copy has no less room
  pub copy_roomier : (d : Store) → Roomier d (copy_of d)
  unfolding state_room_with tr_room_with
  copy_roomier d = record { states = room_append state_size d.memory.states xs; trs = room_append tr_size d.memory.trs ys }

  -- what fits the slice is written at the same place of the copy: a new state
  copy_add : (d : Store) (t : Triple) → d.used.states < state_room d.memory → add (copy_of d) t ≡ copy_of (add d t)
  unfolding add_with state_room_with
  copy_add d t room =
      let r = room_words state_size d.memory.states (suc d.used.states) room in
      let p = put_append d.memory.states xs (state_size * d.used.states) (state_record t (head_of d.memory.heads t)) (omega (arith, r.1)) in
      λ i. record { memory = record { heads = (add d t).memory.heads; states = p i; trs = d.memory.trs ++ ys }; used = (add d t).used }

  -- a new transition
  copy_append : (d : Store) (st : Step) (target next : ℕ) → d.used.trs < tr_room d.memory → append (copy_of d) st target next ≡ copy_of (append d st target next)
  unfolding append tr_room_with
  copy_append d st target next room =
      let r = room_words tr_size d.memory.trs (suc d.used.trs) room in
      let p = put_append d.memory.trs ys (tr_size * d.used.trs) (tr_record st target next) (omega (arith, r.1)) in
      λ i. record { memory = record { heads = d.memory.heads; states = d.memory.states ++ xs; trs = p i }; used = (append d st target next).used }

  -- a mark
  copy_mark : (d : Store) (n first : ℕ) → n < state_room d.memory → mark (copy_of d) n first ≡ copy_of (mark d n first)
  unfolding mark_with state_room_with
  copy_mark d n first room =
      let r = room_words state_size d.memory.states (suc n) room in
      let p = put_append d.memory.states xs (state_size * n + expanded_place) (1 ∷ first ∷ []) (omega (arith, r.1)) in
      λ i. record { memory = record { heads = d.memory.heads; states = p i; trs = d.memory.trs ++ ys }; used = d.used }

  -- what a store in form holds, it holds in the copy: its used records lie within the slices
  module _ {S1 S2 : ℕ} (d : Store) {last : ℕ} (ok : Form S1 S2 d last) where
    copy_field : (n k : ℕ) → n < d.used.states → k < state_size → state_field (d.memory.states ++ xs) n k ≡ state_field d.memory.states n k
    unfolding field_of state_room_with
    copy_field n k h i = let r = room_words state_size d.memory.states d.used.states ok.states_fit in get_or-append d.memory.states xs 0 (state_size * n + k) (omega (arith, r.1, h, i))

    pub copy_alike : Alike d (copy_of d)
    unfolding tr_room_with
    copy_alike = record {
      states = refl;
      trs = refl;
      state = λ n k h i. copy_field n k h (omega arith);
      word = λ i h. let r = room_words tr_size d.memory.trs d.used.trs ok.trs_fit in get_or-append d.memory.trs ys 0 i (omega (arith, r.1, h));
    }

    -- the same is found: chains stay within the used states
    copy_find : (t : Triple) → find (copy_of d) t ≡ find d t
    unfolding next_with
    copy_find = find_same d ok (d.memory.states ++ xs) (d.memory.trs ++ ys) (λ n h. copy_field n next_place h (omega arith)) (alike_triple d (copy_of d) copy_alike)

    -- and it is in form
    copy_form : Form S1 S2 (copy_of d) last
    unfolding target_at tr_next_at field_of
    copy_form = record {
      states_fit = omega (arith, ok.states_fit, (copy_roomier d).states);
      trs_fit = omega (arith, ok.trs_fit, (copy_roomier d).trs);
      head = ok.head;
      headed = ok.headed;
      state = λ n h. moved d.memory.states (d.memory.states ++ xs) d.used.trs d.used.trs n (omega arith) (λ k i. copy_field n k h i) (ok.state n h);
      tr = λ i h.
          let r = ok.tr i h in
          record { target = rw (copy_alike.word (tr_size * i + 3) (omega arith)) r.target; next = rw (copy_alike.word (tr_size * i + 4) (omega arith)) r.next };
    }

  module _ {S1 S2 : ℕ} (last : ℕ) where
    -- a triple is reached as before: found, or added where there was room
    copy_reach : (d : Store) (t : Triple) (r : Reached) → Form S1 S2 d last → reach d t ≡ good r → reach (copy_of d) t ≡ good (record { store = copy_of r.store; state = r.state })
    unfolding reach_with
    copy_reach d t r ok e = rw (copy_find d ok t) (go (find d t) e)
      where
        go : (o : Option ℕ) → reached_by d t o ≡ good r → reached_by (copy_of d) t o ≡ good (record { store = copy_of r.store; state = r.state })
        go (Some n) g = ap (λ (q : Reached). good (record { store = copy_of q.store; state = q.state })) (good_is g)
        go None g =
            let c = past_check (leb (state_room d.memory) d.used.states) 13 _ r g in
            let room = leb-false (state_room d.memory) d.used.states c.0 in
            rw (lt-leb (state_room (copy_of d).memory) d.used.states (omega (arith, room, (copy_roomier d).states)))
            (ap (λ (q : Store). good (record { store = q; state = d.used.states })) (copy_add d t room)
            ∙ ap (λ (q : Reached). good (record { store = copy_of q.store; state = q.state })) (good_is c.1))

    -- one step
    copy_step : (d : Store) (next : ℕ) (st : Step) (e : Store) → Form S1 S2 d last → InRange S1 S2 st.to → 0 < d.used.states → store_step d next st ≡ good e
        → store_step (copy_of d) next st ≡ good (copy_of e)
    unfolding store_step_with
    copy_step d next st e ok in' any g =
        let c = past_check (leb (tr_room d.memory) d.used.trs) 13 _ e g in
        let r = past_then (reach d st.to) _ e c.1 in
        let k = reach_kept d last st.to r.0 ok in' any r.1 in
        let room = leb-false (tr_room d.memory) d.used.trs c.0 in
        rw (lt-leb (tr_room (copy_of d).memory) d.used.trs (omega (arith, room, (copy_roomier d).trs)), copy_reach d st.to r.0 ok r.1)
        (ap good (copy_append r.0.store st r.0.state next (omega (arith, k.trs, k.room, room))) ∙ ap (λ q. good (copy_of q)) (good_is r.2))

    -- the steps of an expansion, each from a store in form
    copy_steps : (d : Store) (steps : List (Checked Step)) (e : Store) → Form S1 S2 d last → ((st : Step) → In (good st) steps → InRange S1 S2 st.to) → 0 < d.used.states
        → d.used.trs + length steps ≡ last → store_steps d steps ≡ good e → store_steps (copy_of d) steps ≡ good (copy_of e)
    unfolding store_steps_with
    copy_steps d [] e ok in' any h g = ap (λ q. good (copy_of q)) (good_is g)
    copy_steps d (refused n ∷ others) e ok in' any h g = absurd (good≢refused (sym g))
    copy_steps d (good st ∷ others) e ok in' any h g =
        let next = next_for d (non_empty others) in
        let m = past_then (store_step d next st) _ e g in
        let k = step_kept d last next st m.0 ok (in' st (here refl)) any (link_ok d last others (omega arith)) m.1 in
        rw (next_alike d (copy_of d) (non_empty others) refl, copy_step d next st m.0 ok (in' st (here refl)) any m.1)
        (copy_steps m.0 others e k.form (λ s i. in' s (there i)) (omega (arith, k.states)) (omega (arith, k.trs)) m.2)

  -- an expansion, where the checks 1 to 8 pass
  module _ (l : Lent) (s : Session) (m : Memory) (c : Composition) (enters : entered l s m ≡ good c) where
    abbrev d : Store
    d = store_of s m

    abbrev big : Memory
    big = lengthened xs ys m

    checks : Entered l s m c
    checks = entered_is l s m c enters

    same : Alike d (copy_of d)
    same = copy_alike d checks.form

    -- the checks 1 to 8 pass
    copy_enters : entered l s big ≡ good c
    copy_enters = is_entered l s big c (record { side = checks.side; rule = checks.rule; same = checks.same; composition = checks.composition; form = copy_form d checks.form })

    -- an expanded state is answered as stored
    copy_old : (n : ℕ) → n < s.used.states → expanded_at m.states n ≡ 1 → expand_of l s big n ≡ stayed s big (good (part_at d n))
    unfolding expanded_with first_with
    copy_old n h x =
        expand_old l s big c copy_enters n h (same.state n expanded_place h (omega arith) ∙ x)
        ∙ ap (λ (p : Part). stayed s big (good p)) (part_alike d (copy_of d) checks.form (omega arith) n h same.word (same.state n first_place h (omega arith)))

    -- the steps of an unexpanded one are stored, and its mark
    copy_stored : (n : ℕ) → n < s.used.states → expanded_at m.states n ≢ 1 → (e : Store) → store_steps d (steps_at c (triple_at m.states n)) ≡ good e → expand_of l s big n ≡ copy_left (stored s n e)
    unfolding expanded_with
    copy_stored n h bare e g =
        let steps = steps_at c (triple_at m.states n) in
        let last = s.used.trs + length steps in
        let ok = longer d last checks.form (omega arith) in
        let in' = steps_range l s m c enters n h in
        let k = steps_kept d last steps e ok in' (omega (arith, h)) refl g in
        let p = new_part s.used e.used in
        expand_stored l s big c copy_enters n h (λ x. bare (sym (same.state n expanded_place h (omega arith)) ∙ x)) (copy_of e)
        (subst (λ t. store_steps (copy_of d) (steps_at c t) ≡ good (copy_of e)) (sym (alike_triple d (copy_of d) same n h)) (copy_steps last d steps e ok in' (omega (arith, h)) refl g))
        ∙ ap (λ (f : Store). record { answer = good p; session = record { settings = s.settings; side = s.side; used = f.used }; memory = f.memory }) (copy_mark e n p.first (omega (arith, h, k.states, k.form.states_fit)))

    -- one that is accepted
    pub copy_expand : (n : ℕ) (p : Part) → (expand_of l s m n).answer ≡ good p → expand_of l s big n ≡ copy_left (expand_of l s m n)
    copy_expand n p =
        by_expand l s m c enters n (λ o. o.answer ≡ good p → expand_of l s big n ≡ copy_left o)
        (λ h z. absurd (good≢refused (sym z))) (λ h x z. copy_old n h x) (λ h x k e z. absurd (good≢refused (sym z))) (λ h x e g z. copy_stored n h x e g)

  -- an accepted opening: it clears the same heads, and finds no less room for state 0
  pub copy_open : (s : Settings) (l : Lent) (got : Session) (m : Memory) → (open_of s l got m).answer ≡ good tt → open_of s l got (lengthened xs ys m) ≡ copy_left (open_of s l got m)
  unfolding cleared state_room_with
  copy_open s l got m =
      by_open s l got m (λ (o : Outcome (Unit {0})). o.answer ≡ good tt → open_of s l got big ≡ copy_left o)
      (λ k e z. absurd (good≢refused (sym z))) (λ side e h z. open_empty s l got big side e h) (λ side t e h z. absurd (good≢refused (sym z)))
      (λ side t e h b z.
      open_begun s l got big side t e h (record { room = omega (arith, b.room, room_append state_size m.states xs); headed = b.headed })
      ∙ ap (opened_as s side) (copy_add (cleared m) t b.room))
    where
      big : Memory
      big = lengthened xs ys m
