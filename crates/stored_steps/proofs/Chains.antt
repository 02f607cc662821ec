-- Memory in form is chained, and steps that fit keep it so. So the state of a triple is found along links that fall.
use mathlib.Core.Path.{◌≡◌, refl, ap}
use mathlib.Core.List.{List, [], ◌∷◌}
use Rattle.std.specs.Prelude.{Option, None, Some}
use Prim.Native.Nat.{ℕ, suc, ◌+◌, ◌*◌, ◌≤◌, ◌<◌}
use native.Mathlib.Omega.{arith}
use native.Mathlib.Decide.{ℕ_discrete, dec_lt}
use lib.ListN.{length, get_or, set}
use lib.Seq.{get_or-set_same, get_or-set_other, set_out}
use Rattle.lists.specs.Lists.{first, linked}
use Rattle.lists.proofs.Links.{linked_same}
use Rattle.lists.proofs.Put.{length_put}
use Rattle.words.specs.Labels.{Checked, good, refused}
use Rattle.words.specs.Steps.{Triple, Step}
use Rattle.calls.specs.Store.{Store, state_size, state_room, triple_at, next_at, head_of, slot, same_triple, state_record, find, add, append, add_with, chain_with, find_with, next_with, state_room_with}
use Rattle.calls.proofs.RecordLaws.{next_place, room_words, room_same, field_before, field_new}
use Rattle.calls.proofs.StoreForms.{Form}
use Rattle.stored_steps.specs.Storing.{found_or, place, store_one, store_all, Room, Fits}
use Rattle.stored_steps.specs.Chains.{Chained}

pub form_chained : {S1 S2 : ℕ} (d : Store) {last : ℕ} → Form S1 S2 d last → Chained d
form_chained d form = record { fit = form.states_fit; head = form.head; next = λ n h. (form.state n h).next }

-- a head written, in range or not
head_set : (l : List ℕ) (at v h u : ℕ) → ((k : ℕ) → get_or l k 0 ≤ u) → v ≤ u → get_or (set l at v) h 0 ≤ u
head_set l at v h u low e = go (ℕ_discrete h at) (dec_lt at (length l))
  where
    go : Dec (h ≡ at) → Dec (at < length l) → get_or (set l at v) h 0 ≤ u
    go (yes p) (yes b) = rw (p, get_or-set_same l at v 0 b) e
    go (yes p) (no b) = rw (set_out l at v (omega arith)) (low h)
    go (no p) b = rw (get_or-set_other l at h v 0 p) (low h)

module _ (d : Store) (c : Chained d) where
  abbrev U : ℕ
  U = d.used.states

  -- a new state: its link is the old head
  module _ (t : Triple) (room : U < state_room d.memory) where
    next_new : (n : ℕ) → n < U + 1 → Dec (n < U) → next_at (add d t).memory.states n ≤ n
    unfolding add_with next_with state_room_with head_of
    next_new n h (yes l) = rw (field_before d.memory.states (state_record t (head_of d.memory.heads t)) U n next_place l (omega arith)) (c.next n l)
    next_new n h (no l) =
        let e : n ≡ U = omega arith in
        let r = room_words state_size d.memory.states (suc U) (omega (arith, room)) in
        rw (e, field_new d.memory.states (state_record t (head_of d.memory.heads t)) U next_place (omega arith) (omega (arith, r.1))) (c.head (slot d.memory.heads t))

    pub add_chained : Chained (add d t)
    unfolding add_with state_room_with
    add_chained = record {
      fit = rw (room_same state_size d.memory.states (add d t).memory.states (length_put d.memory.states (state_size * U) (state_record t (head_of d.memory.heads t)))) (omega (arith, room));
      head = λ h. head_set d.memory.heads (slot d.memory.heads t) (U + 1) h (U + 1) (λ k. let l = c.head k in omega arith) (omega arith);
      next = λ n h. next_new n h (dec_lt n U);
    }

  pub place_chained : (t : Triple) → (find d t ≡ None → U < state_room d.memory) → Chained (place d t).store
  unfolding place
  place_chained t room = go (find d t) refl
    where
      go : (o : Option ℕ) → find d t ≡ o → Chained (found_or d t o).store
      go (Some n) e = c
      go None e = add_chained t (room e)

  pub one_chained : (st : Step) → Room d st → Chained (store_one d st)
  unfolding store_one append state_room_with
  one_chained st r = let p = place_chained st.to r.state in record { fit = p.fit; head = p.head; next = p.next }

  -- the state with a triple, found along links that fall: fuel from the head on is enough
  pub find_falling : (t : Triple) (h : ℕ) → h ≡ head_of d.memory.heads t → first (λ n. same_triple (triple_at d.memory.states n) t) (linked (next_at d.memory.states) h h) ≡ find d t
  unfolding find_with chain_with head_of
  find_falling t h e =
      let low : h ≤ U = rw e (c.head (slot d.memory.heads t)) in
      rw (← e) (ap (first (λ n. same_triple (triple_at d.memory.states n) t)) (linked_same (next_at d.memory.states) (next_at d.memory.states) U h U h c.next (λ n l. refl) low (omega arith) low))

-- all steps of a list
pub all_chained : (d : Store) (steps : List (Checked Step)) → Chained d → Fits d steps → Chained (store_all d steps)
unfolding store_all
all_chained d [] c f = c
all_chained d (good st ∷ others) c f = all_chained (store_one d st) others (one_chained d c st f.0) f.1
all_chained d (refused n ∷ others) c f = absurd f
