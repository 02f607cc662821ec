-- An old store and a new one with the same records: rooms, the form check, what is found; and a new state, a new transition and a mark keep the records the same. Form is known
-- of the new store alone: every word read lies in a used record, where the two agree.
use mathlib.Core.Path.{◌≡◌, refl, sym, ◌∙◌, ap}
use mathlib.Core.Bool.{Bool, ◌&&◌, ◌||◌}
use mathlib.Core.List.{List, [], ◌∷◌}
use mathlib.Core.Logic.{◌≢◌}
use Prim.Native.Nat.{ℕ, ◌+◌, ◌*◌, ◌/◌, ◌%◌, ◌≤◌, ◌<◌, min}
use native.Mathlib.Omega.{arith}
use native.Mathlib.Decide.{ℕ_discrete, dec_lt}
use lib.Dec.{eqb, ltb, leb}
use lib.ListN.{length, get_or, set}
use Rattle.lists.specs.Lists.{interval, put, first, linked}
use Rattle.lists.proofs.Members.{every_same, of_interval}
use Rattle.lists.proofs.Links.{first_same, linked_same}
use Rattle.lists.proofs.Put.{length_put, put_before, put_after, put_in}
use Rattle.words.specs.Steps.{Triple, Step, same_triple}
use Rattle.calls.specs.Store.{Memory, Store, tr_size, state_room, tr_room, triple_at, next_at, target_at, tr_next_at, slot, head_of, chain_of, find, add, tr_record, append, mark, part_at, add_with, chain_with, expanded_with, field_of, find_with, first_with, mark_with, next_with, part_with, room_with, state_record_with, state_room_with, tr_room_with}
use Rattle.calls.specs.Forms.{heads_ok, state_form_ok, tr_form_ok, form_ok, expanded_ok_with, form_ok_with, state_form_ok_with, triple_ok_with}
use Rattle.calls.specs.Calls.{words_of_part}
use Rattle.calls.proofs.StoreForms.{Form}
use Rattle.calls.proofs.ChainLaws.{chain_below, add_field, add_new, add_holds}
use Rattle.calls.proofs.FormKept.{mark_other, mark_triple, mark_next, mark_expanded, mark_first}
use Rattle.calls.proofs.TwoStores.{written}
use Rattle.calls.proofs.Parts.{part_alike, words_alike}
use Rattle.layouts.specs.Layout.{five, old_field}
use Rattle.layouts.specs.SameRecords.{new_states, whole_trs, SameState, SameRecords}
use Rattle.layouts.proofs.OldRecords.{packed, state_moved}

-- the old store beside the new one: it has the same used counts
abbrev pub beside : Memory → Store → Store
beside o d = record { memory = o; used = d.used }

-- Rooms are those of the same numbers of whole records, in digits: no memory that a closed case can hold would show a wrong limit.
pub record Rooms (o m : Memory) : Type 0 where
  pub old_states_lem : state_room_with five o ≡ min 65535 (new_states m)
  pub old_trs : tr_room_with five o ≡ min 65535 (whole_trs m)
  pub new_states_lem : state_room m ≡ min 16777215 (new_states m)
  pub new_trs : tr_room m ≡ min 16777215 (whole_trs m)

module _ (o : Memory) (d : Store) (same : SameRecords o d.memory d.used) where
  abbrev m : Memory
  m = d.memory

  abbrev U : ℕ
  U = d.used.states

  abbrev T : ℕ
  T = d.used.trs

  pub rooms : Rooms o m
  unfolding state_room_with tr_room_with room_with
  rooms = record { old_states_lem = ap (min 65535) same.states; old_trs = ap (min 65535) same.trs; new_states_lem = refl; new_trs = refl }

  -- the form check reads used records alone
  module _ (S1 S2 : ℕ) (whole : U ≤ new_states m) (whole_trs_lem : T ≤ whole_trs m) where
    state_form : (n : ℕ) → n < U → state_form_ok_with five S1 S2 (beside o d) n ≡ state_form_ok S1 S2 d n
    unfolding state_form_ok_with triple_ok_with expanded_ok_with
    state_form n h =
        let s = same.state n h (omega (arith, h, whole)) in
        λ i. (ltb (s.triple i).s1 S1 && (ltb (s.triple i).s2 S2 && leb (s.triple i).f 2))
        && ((leb (s.expanded i) 1 && ((eqb (s.expanded i) 1 || eqb (s.first i) 0) && leb (s.first i) T)) && leb (s.next i) n)

    tr_form : (i : ℕ) → i < T → tr_form_ok (beside o d) i ≡ tr_form_ok d i
    unfolding tr_form_ok target_at tr_next_at field_of
    tr_form i h = rw (same.word (tr_size * i + 3) (omega arith) (omega (arith, h, whole_trs_lem)), same.word (tr_size * i + 4) (omega arith) (omega (arith, h, whole_trs_lem)))

    heads_two : heads_ok (beside o d) ≡ heads_ok d
    unfolding heads_ok
    heads_two = rw same.heads

    pub form_two : form_ok_with five S1 S2 (beside o d) ≡ form_ok S1 S2 d
    unfolding form_ok_with
    form_two =
        let states = every_same (state_form_ok_with five S1 S2 (beside o d)) (state_form_ok S1 S2 d) (interval 0 U) (λ n i. state_form n (omega (arith, (of_interval 0 U i).1))) in
        let trs = every_same (tr_form_ok (beside o d)) (tr_form_ok d) (interval 0 T) (λ n i. tr_form n (omega (arith, (of_interval 0 T i).1))) in
        λ i. heads_two i && (states i && trs i)

  -- where the new store is in form, its used records are whole ones
  module _ {S1 S2 : ℕ} {last : ℕ} (form : Form S1 S2 d last) where
    pub whole_states : U ≤ new_states m
    whole_states = omega (arith, form.states_fit, rooms.new_states_lem)

    pub whole_trs_lem : T ≤ whole_trs m
    whole_trs_lem = omega (arith, form.trs_fit, rooms.new_trs)

    pub state_two : (n : ℕ) → n < U → SameState o.states m.states n
    state_two n h = same.state n h (omega (arith, h, whole_states))

    word_two : (i : ℕ) → i < tr_size * T → get_or o.trs i 0 ≡ get_or m.trs i 0
    word_two i h = same.word i h (omega (arith, h, whole_trs_lem))

    -- chains run through used states, so that the same is found
    chain_two : (t : Triple) → chain_with five (beside o d) t ≡ chain_of d t
    unfolding chain_with head_of
    chain_two t =
        let low = form.head (slot m.heads t) in
        ap (λ h. linked (next_with five o.states) U (head_of h t)) same.heads
        ∙ linked_same (next_at m.states) (next_with five o.states) U U U (head_of m.heads t) (λ n h. (form.state n h).next) (λ n h. (state_two n h).next) low low low

    pub find_two : (t : Triple) → find_with five (beside o d) t ≡ find d t
    unfolding find_with
    find_two t =
        let has : ℕ → Bool = λ n. same_triple (five.triple_at o.states n) t in
        ap (first has) (chain_two t)
        ∙ first_same has (λ n. same_triple (triple_at m.states n) t) (chain_of d t) (λ n i. ap (λ u. same_triple u t) (state_two n (chain_below d form t i)).triple)

    -- a new state
    module _ (t : Triple) (ok : t.s2 < 65536) (room : U < state_room_with five o) (more : U < state_room m) (headed : 0 < length m.heads) where
      abbrev rec : List ℕ
      rec = state_record_with five t (head_of o.heads t)

      fits : 5 * U + 5 ≤ length o.states
      fits = let r = rooms.old_states_lem in omega (arith, r, room, same.states)

      new_field : (k : ℕ) → k < 5 → old_field (put o.states (5 * U) rec) U k ≡ get_or rec k 0
      unfolding field_of
      new_field k h = put_in o.states (5 * U) rec k 0 h fits

      new_state : SameState (put o.states (5 * U) rec) (add d t).memory.states U
      unfolding expanded_with first_with next_with field_of
      new_state =
          let p = packed t.s1 t.s2 ok in
          let w : old_field (put o.states (5 * U) rec) U 0 ≡ t.s1 * 65536 + t.s2 = new_field 0 (omega arith) in
          let f : old_field (put o.states (5 * U) rec) U 1 ≡ t.f = new_field 1 (omega arith) in
          let new = add_new d form t more headed in
          let triple : five.triple_at (put o.states (5 * U) rec) U ≡ t = λ i. record { s1 = (ap (λ x. x / 65536) w ∙ p.0) i; s2 = (ap (λ x. x % 65536) w ∙ p.1) i; f = f i } in
          record {
            triple = triple ∙ sym (add_holds d form t more headed);
            expanded = new_field 2 (omega arith) ∙ sym (new 3 (omega arith));
            first = new_field 3 (omega arith) ∙ sym (new 4 (omega arith));
            next = new_field 4 (omega arith) ∙ (ap (λ h. head_of h t) same.heads ∙ sym (new 5 (omega arith)));
          }

      each_state : (n : ℕ) → n < U + 1 → Dec (n < U) → SameState (put o.states (5 * U) rec) (add d t).memory.states n
      unfolding field_of
      each_state n h (yes l) =
          state_moved o.states m.states (put o.states (5 * U) rec) (add d t).memory.states n (λ k i. put_before o.states (5 * U) rec (5 * n + k) 0 (omega arith))
          (λ k i. add_field d form t more headed n k l i) (state_two n l)
      each_state n h (no l) = let e : n ≡ U = omega arith in rw e new_state

      pub add_two : SameRecords (add_with five (beside o d) t).memory (add d t).memory (add d t).used
      unfolding add_with
      add_two = record {
        heads = ap (λ h. set h (slot h t) (U + 1)) same.heads;
        states = simp length_put same.states;
        trs = same.trs;
        state = λ n h w. each_state n h (dec_lt n U);
        word = same.word;
      }

    -- a new transition: the same record at the same place
    module _ (st : Step) (target next : ℕ) (more : T < whole_trs m) where
      abbrev tr : List ℕ
      tr = tr_record st target next

      pub append_two : SameRecords (append (beside o d) st target next).memory (append d st target next).memory (append d st target next).used
      unfolding append
      append_two = record {
        heads = same.heads;
        states = same.states;
        trs = simp length_put same.trs;
        state = same.state;
        word = λ i h w. written tr_size m.trs o.trs tr T T refl refl (omega (arith, more)) (omega (arith, more, same.trs)) word_two i h;
      }

    -- a mark
    module _ (n first' : ℕ) (found : n < U) (within : first' ≤ T) where
      abbrev marked : List ℕ
      marked = put o.states (5 * n + 2) (1 ∷ first' ∷ [])

      old_fits : 5 * n + 5 ≤ length o.states
      old_fits = omega (arith, found, whole_states, same.states)

      other : (j k : ℕ) → j ≢ n → k < 5 → Dec (j < n) → old_field marked j k ≡ old_field o.states j k
      unfolding field_of
      other j k e h (yes l) = put_before o.states (5 * n + 2) (1 ∷ first' ∷ []) (5 * j + k) 0 (omega arith)
      other j k e h (no l) = let g : n < j = omega (arith, e) in put_after o.states (5 * n + 2) (1 ∷ first' ∷ []) (5 * j + k) 0 (omega arith)

      own : SameState marked (mark d n first').memory.states n
      unfolding expanded_with first_with next_with field_of
      own =
          let s = state_two n found in
          let at = put_in o.states (5 * n + 2) (1 ∷ first' ∷ []) in
          let low = put_before o.states (5 * n + 2) (1 ∷ first' ∷ []) in
          record {
            triple = rw (low (5 * n + 0) 0 (omega arith), low (5 * n + 1) 0 (omega arith), mark_triple d form n first' found within) s.triple;
            expanded = ap (λ i. get_or marked i 0) (omega arith) ∙ (at 0 0 (omega arith) (omega (arith, old_fits)) ∙ sym (mark_expanded d form n first' found within));
            first = ap (λ i. get_or marked i 0) (omega arith) ∙ (at 1 0 (omega arith) (omega (arith, old_fits)) ∙ sym (mark_first d form n first' found within));
            next = put_after o.states (5 * n + 2) (1 ∷ first' ∷ []) (5 * n + 4) 0 (omega arith) ∙ (s.next ∙ sym (mark_next d form n first' found within));
          }

      each_mark : (j : ℕ) → j < U → Dec (j ≡ n) → SameState marked (mark d n first').memory.states j
      each_mark j h (yes e) = rw e own
      each_mark j h (no e) =
          state_moved o.states m.states marked (mark d n first').memory.states j (λ k i. other j k e i (dec_lt j n))
          (λ k i. mark_other d form n first' found within j k e i) (state_two j h)

      pub mark_two : SameRecords (mark_with five (beside o d) n first').memory (mark d n first').memory d.used
      unfolding mark_with
      mark_two = record { heads = same.heads; states = simp length_put same.states; trs = same.trs; state = λ j h w. each_mark j h (ℕ_discrete j n); word = same.word }

  -- an expanded state's list, and its words: they lie in used records
  module _ {S1 S2 : ℕ} (form : Form S1 S2 d T) (n : ℕ) (found : n < U) where
    -- the new states beside the old transitions
    abbrev mixed : Store
    mixed = record { memory = record { heads = m.heads; states = m.states; trs = o.trs }; used = d.used }

    pub part_two : part_with five (beside o d) n ≡ part_at d n
    unfolding part_with
    part_two =
        ap (λ f. record { first = f; count = length (linked (tr_next_at o.trs) T f) }) (state_two form n found).first
        ∙ part_alike d mixed form (omega arith) n found (word_two form) refl

    pub words_two : words_of_part o.trs (part_with five (beside o d) n) ≡ words_of_part m.trs (part_at d n)
    unfolding tr_room_with room_with
    words_two = ap (words_of_part o.trs) part_two ∙ words_alike d mixed form (omega arith) n found (omega (arith, form.trs_fit, rooms.new_trs, same.trs)) (word_two form)
