-- An accepted expansion keeps form, on any memory in form: a new state, a new transition and the mark each keep it, and every target of a kept move is in range.
use mathlib.Core.Path.{◌≡◌, refl, ◌∙◌, ap}
use mathlib.Core.List.{List, [], ◌∷◌}
use mathlib.Core.Logic.{◌⊎◌, inl, inr, ◌≢◌}
use Prim.Native.Nat.{ℕ, suc, ◌+◌, ◌*◌, ◌≤◌, ◌<◌}
use native.Mathlib.Omega.{arith}
use native.Mathlib.Decide.{ℕ_discrete, dec_lt}
use lib.ListN.{length, get_or, length-set}
use lib.Seq.{get_or-set_same, get_or-set_other}
use Rattle.lists.specs.Lists.{put}
use Rattle.lists.proofs.Put.{length_put, put_before, put_after, put_in}
use Rattle.words.specs.Steps.{Triple, Step}
use Rattle.words.proofs.StepRange.{InRange}
use Rattle.calls.specs.Store.{Store, state_size, tr_size, state_room, tr_room, state_field, triple_at, expanded_place, expanded_at, first_at, next_at, tr_field, target_at, tr_next_at, slot, head_of, state_record, add, tr_record, append, mark, add_with, expanded_with, field_of, first_with, mark_with, next_with, state_room_with, tr_room_with}
use Rattle.calls.proofs.RecordLaws.{first_place, next_place, room_words, room_same, triple_same}
use Rattle.calls.proofs.StoreForms.{StateForm, TrForm, Form}
use Rattle.calls.proofs.ChainLaws.{add_field, add_new, add_holds, slot_in}

-- the words of a state's record that form looks at, taken over from a record with the same ones
pub moved : {S1 S2 : ℕ} (ss rr : List ℕ) (trs more n : ℕ) → trs ≤ more → ((k : ℕ) → k < state_size → state_field rr n k ≡ state_field ss n k) → StateForm S1 S2 ss trs n → StateForm S1 S2 rr more n
unfolding expanded_with first_with next_with
moved ss rr trs more n h e s = record {
  triple = rw (triple_same ss rr n n (λ k i. e k (omega arith))) s.triple;
  expanded = rw (e expanded_place (omega arith)) s.expanded;
  unexpanded = rw (e expanded_place (omega arith), e first_place (omega arith)) s.unexpanded;
  first = rw (e first_place (omega arith)) (omega (arith, s.first));
  next = rw (e next_place (omega arith)) s.next;
}

module _ {S1 S2 : ℕ} (d : Store) {last : ℕ} (form : Form S1 S2 d last) where
  abbrev U : ℕ
  U = d.used.states

  -- a new state: its record and its head are in form, the others stay
  module _ (t : Triple) (ok : InRange S1 S2 t) (room : U < state_room d.memory) (headed : 0 < length d.memory.heads) where
    abbrev ss : List ℕ
    ss = (add d t).memory.states

    new_head : (h : ℕ) → Dec (h ≡ slot d.memory.heads t) → get_or (add d t).memory.heads h 0 ≤ U + 1
    unfolding add_with
    new_head h (yes e) = rw (e, get_or-set_same d.memory.heads (slot d.memory.heads t) (U + 1) 0 (slot_in d.memory.heads t headed)) (omega arith)
    new_head h (no e) = let l = form.head h in rw (get_or-set_other d.memory.heads (slot d.memory.heads t) h (U + 1) 0 e) (omega arith)

    new_state : StateForm S1 S2 ss d.used.trs U
    unfolding expanded_with first_with next_with head_of
    new_state = record {
      triple = rw (add_holds d form t room headed) ok;
      expanded = rw (add_new d form t room headed expanded_place (omega arith)) (omega arith);
      unexpanded = inr (add_new d form t room headed first_place (omega arith));
      first = rw (add_new d form t room headed first_place (omega arith)) (omega arith);
      next = rw (add_new d form t room headed next_place (omega arith)) (form.head (slot d.memory.heads t));
    }

    each_state : (n : ℕ) → n < U + 1 → Dec (n < U) → StateForm S1 S2 ss d.used.trs n
    each_state n h (yes l) = moved d.memory.states ss d.used.trs d.used.trs n (omega arith) (λ k i. add_field d form t room headed n k l i) (form.state n l)
    each_state n h (no l) = let e : n ≡ U = omega arith in rw e new_state

    pub add_form : Form S1 S2 (add d t) last
    unfolding add_with state_room_with tr_room_with
    add_form = record {
      states_fit = rw (room_same state_size d.memory.states (add d t).memory.states (length_put d.memory.states (state_size * U) (state_record t (head_of d.memory.heads t)))) (omega (arith, room));
      trs_fit = form.trs_fit;
      head = λ h. new_head h (ℕ_discrete h (slot d.memory.heads t));
      headed = λ _. rw length-set headed;
      state = λ n h. each_state n h (dec_lt n U);
      tr = λ i h. let r = form.tr i h in record { target = omega (arith, r.target); next = r.next };
    }

  -- a new transition: the others' words stay
  module _ (st : Step) (target next : ℕ) (used : target < U) (room : d.used.trs < tr_room d.memory) (linked : (next ≡ 0) ⊎ ((next ≡ d.used.trs + 2) × (d.used.trs + 1 < last))) where
    abbrev T : ℕ
    T = d.used.trs

    abbrev ts : List ℕ
    ts = (append d st target next).memory.trs

    old_tr : (i k : ℕ) → i < T → k < tr_size → tr_field ts i k ≡ tr_field d.memory.trs i k
    unfolding append field_of
    old_tr i k h l = put_before d.memory.trs (tr_size * T) (tr_record st target next) (tr_size * i + k) 0 (omega arith)

    pub append_new : (k : ℕ) → k < tr_size → tr_field ts T k ≡ get_or (tr_record st target next) k 0
    unfolding append field_of tr_room_with
    append_new k h = let r = room_words tr_size d.memory.trs (suc T) room in put_in d.memory.trs (tr_size * T) (tr_record st target next) k 0 h (omega (arith, r.1))

    each_tr : (i : ℕ) → i < T + 1 → Dec (i < T) → TrForm ts U last i
    unfolding target_at tr_next_at
    each_tr i h (yes l) = let r = form.tr i l in record { target = rw (old_tr i 3 l (omega arith)) r.target; next = rw (old_tr i 4 l (omega arith)) r.next }
    each_tr i h (no l) = let e : i ≡ T = omega arith in rw e (record { target = rw (append_new 3 (omega arith)) used; next = rw (append_new 4 (omega arith)) linked })

    pub append_form : Form S1 S2 (append d st target next) last
    unfolding append state_room_with tr_room_with
    append_form = record {
      states_fit = form.states_fit;
      trs_fit = rw (room_same tr_size d.memory.trs (append d st target next).memory.trs (length_put d.memory.trs (tr_size * T) (tr_record st target next))) (omega (arith, room));
      head = form.head;
      headed = form.headed;
      state = λ n h. moved d.memory.states d.memory.states T (T + 1) n (omega arith) (λ k l. refl) (form.state n h);
      tr = λ i h. each_tr i h (dec_lt i T);
    }

  -- the mark of an expanded state: its other words and all other records stay
  module _ (n first : ℕ) (found : n < U) (within : first ≤ d.used.trs) where
    abbrev ms : List ℕ
    ms = (mark d n first).memory.states

    fit : state_size * n + state_size ≤ length d.memory.states
    unfolding state_room_with
    fit = let r = room_words state_size d.memory.states U form.states_fit in omega (arith, r.1)

    pub mark_other : (m k : ℕ) → m ≢ n → k < state_size → state_field ms m k ≡ state_field d.memory.states m k
    unfolding mark_with field_of
    mark_other m k e h = go (dec_lt m n)
      where
        go : Dec (m < n) → get_or (put d.memory.states (state_size * n + expanded_place) (1 ∷ first ∷ [])) (state_size * m + k) 0 ≡ get_or d.memory.states (state_size * m + k) 0
        go (yes l) = put_before d.memory.states (state_size * n + expanded_place) (1 ∷ first ∷ []) (state_size * m + k) 0 (omega arith)
        go (no l) = let g : n < m = omega (arith, e) in put_after d.memory.states (state_size * n + expanded_place) (1 ∷ first ∷ []) (state_size * m + k) 0 (omega arith)

    pub mark_triple : triple_at ms n ≡ triple_at d.memory.states n
    unfolding mark_with field_of
    mark_triple = triple_same d.memory.states ms n n (λ k h. put_before d.memory.states (state_size * n + expanded_place) (1 ∷ first ∷ []) (state_size * n + k) 0 (omega arith))

    pub mark_next : next_at ms n ≡ next_at d.memory.states n
    unfolding mark_with next_with field_of
    mark_next = put_after d.memory.states (state_size * n + expanded_place) (1 ∷ first ∷ []) (state_size * n + next_place) 0 (omega arith)

    pub mark_expanded : expanded_at ms n ≡ 1
    unfolding mark_with expanded_with field_of
    mark_expanded = ap (λ i. get_or ms i 0) (omega arith) ∙ put_in d.memory.states (state_size * n + expanded_place) (1 ∷ first ∷ []) 0 0 (omega arith) (omega (arith, fit))

    pub mark_first : first_at ms n ≡ first
    unfolding mark_with first_with field_of
    mark_first = ap (λ i. get_or ms i 0) (omega arith) ∙ put_in d.memory.states (state_size * n + expanded_place) (1 ∷ first ∷ []) 1 0 (omega arith) (omega (arith, fit))

    marked_state : (m : ℕ) → m < U → Dec (m ≡ n) → StateForm S1 S2 ms d.used.trs m
    marked_state m h (no e) = moved d.memory.states ms d.used.trs d.used.trs m (omega arith) (λ k l. mark_other m k e l) (form.state m h)
    marked_state m h (yes e) =
        let s = form.state n found in
        rw e (record {
          triple = rw mark_triple s.triple;
          expanded = rw mark_expanded (omega arith);
          unexpanded = inl mark_expanded;
          first = rw mark_first within;
          next = rw mark_next s.next;
        })

    pub mark_form : Form S1 S2 (mark d n first) last
    unfolding mark_with state_room_with tr_room_with
    mark_form = record {
      states_fit = rw (room_same state_size d.memory.states (mark d n first).memory.states (length_put d.memory.states (state_size * n + expanded_place) (1 ∷ first ∷ []))) form.states_fit;
      trs_fit = form.trs_fit;
      head = form.head;
      headed = form.headed;
      state = λ m h. marked_state m h (ℕ_discrete m n);
      tr = form.tr;
    }
