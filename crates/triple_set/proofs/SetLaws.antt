-- Chains of a set: a triple found is held in that record; one just added is found, and every other is found as before.
use mathlib.Core.Path.{◌≡◌, refl, sym, ◌∙◌, ap}
use mathlib.Core.Bool.{Bool, true, false, ◌||◌}
use mathlib.Core.List.{List, ◌∷◌, Memᴰ as In}
use mathlib.Core.Logic.{◌≢◌}
use Rattle.std.specs.Prelude.{Some}
use Prim.Native.Nat.{ℕ, suc, ◌+◌, ◌*◌, ◌≤◌, ◌<◌}
use native.Mathlib.Numerals.{add-one}
use native.Mathlib.Omega.{arith}
use native.Mathlib.Decide.{ℕ_discrete}
use lib.ListN.{length, get_or, set, length-set, replicate, length-replicate}
use lib.Seq.{get_or-set_same, get_or-set_other}
use Rattle.lists.specs.Lists.{first, linked}
use Rattle.lists.proofs.Links.{first_sound, first_same, Falls, linked_below, linked_same}
use Rattle.lists.proofs.Places.{zeros}
use Rattle.words.specs.Steps.{Triple}
use Rattle.calls.specs.Store.{Store, state_size, state_room, state_field, triple_at, next_at, slot, head_of, chain_of, same_triple, find, state_record, add, add_with, chain_with, find_with, next_with, state_room_with}
use Rattle.calls.proofs.RecordLaws.{next_place, room_words, field_before, field_new, triple_before}
use Rattle.calls.proofs.ChainLaws.{same_triple_lem, same_self, slot_in}
use Rattle.stored_steps.proofs.Chains.{add_chained}
use Rattle.triple_set.specs.Sets.{set_of, Headed, is_found, holds}

-- a written head changes no slot
slot_same : (heads : List ℕ) (i v : ℕ) (t : Triple) → slot (set heads i v) t ≡ slot heads t
unfolding slot
slot_same heads i v t = rw length-set

module _ (d : Store) (form : Headed d) where
  abbrev U : ℕ
  U = d.used.states

  falls : Falls (next_at d.memory.states) U
  falls n h = form.chained.next n h

  head_low : (t : Triple) → head_of d.memory.heads t ≤ U
  unfolding head_of
  head_low t = form.chained.head (slot d.memory.heads t)

  -- the records of a chain are used ones
  chain_below : (t : Triple) {n : ℕ} → In n (chain_of d t) → n < U
  unfolding chain_with
  chain_below t i = let r = linked_below (next_at d.memory.states) U U (head_of d.memory.heads t) falls (head_low t) i in omega (arith, r, head_low t)

  -- a record found is a used one, with that triple
  pub set_sound : (t : Triple) (n : ℕ) → find d t ≡ Some n → (n < U) × (triple_at d.memory.states n ≡ t)
  unfolding find_with
  set_sound t n e =
      let r = first_sound (λ k. same_triple (triple_at d.memory.states k) t) (chain_of d t) n e in
      (chain_below t r.0, same_triple_lem (triple_at d.memory.states n) t r.1)

  -- other records, with the same triples where they are used: the same of a chain is found
  first_alike : (ss : List ℕ) → ((n : ℕ) → n < U → triple_at ss n ≡ triple_at d.memory.states n) → (t : Triple) → first (λ n. same_triple (triple_at ss n) t) (chain_of d t) ≡ find d t
  unfolding find_with
  first_alike ss same t = first_same (λ n. same_triple (triple_at ss n) t) (λ n. same_triple (triple_at d.memory.states n) t) (chain_of d t) (λ n i. ap (λ u. same_triple u t) (same n (chain_below t i)))

  module _ (t : Triple) (room : U < state_room d.memory) where
    abbrev new : List ℕ
    new = state_record t (head_of d.memory.heads t)

    abbrev ss : List ℕ
    ss = (add d t).memory.states

    fits : state_size * U + state_size ≤ length d.memory.states
    unfolding state_room_with
    fits = let r = room_words state_size d.memory.states (suc U) room in omega (arith, r.1)

    old_field_lem : (n k : ℕ) → n < U → k < state_size → state_field ss n k ≡ state_field d.memory.states n k
    unfolding add_with
    old_field_lem n k h l = field_before d.memory.states new U n k h l

    new_field : (k : ℕ) → k < state_size → state_field ss U k ≡ get_or new k 0
    unfolding add_with
    new_field k h = field_new d.memory.states new U k h fits

    old_triple : (n : ℕ) → n < U → triple_at ss n ≡ triple_at d.memory.states n
    unfolding add_with
    old_triple n h = triple_before d.memory.states new U n h

    new_triple : triple_at ss U ≡ t
    unfolding triple_at
    new_triple =
        let p : state_field ss U 0 ≡ t.s1 = new_field 0 (omega arith) in
        let q : state_field ss U 1 ≡ t.s2 = new_field 1 (omega arith) in
        let r : state_field ss U 2 ≡ t.f = new_field 2 (omega arith) in
        λ i. record { s1 = p i; s2 = q i; f = r i }

    old_next : (n : ℕ) → n < U → next_at ss n ≡ next_at d.memory.states n
    unfolding next_with
    old_next n h = old_field_lem n next_place h (omega arith)

    new_next : next_at ss U ≡ head_of d.memory.heads t
    unfolding next_with
    new_next = new_field next_place (omega arith)

    -- the chain of its head begins with it
    chain_same : (u : Triple) → slot d.memory.heads u ≡ slot d.memory.heads t → chain_of (add d t) u ≡ U ∷ chain_of d u
    unfolding chain_with head_of add_with linked
    chain_same u e =
        let hs = d.memory.heads in
        let hd : get_or (set hs (slot hs t) (U + 1)) (slot (set hs (slot hs t) (U + 1)) u) 0 ≡ suc U
        = rw (slot_same, e) (get_or-set_same hs (slot hs t) (U + 1) 0 (slot_in hs t form.headed) ∙ add-one U) in
        let nx : next_at ss U ≡ head_of hs u = new_next ∙ ap (λ i. get_or hs i 0) (sym e) in
        rw (hd, add-one)
        (ap (λ (l : List ℕ). U ∷ l)
        (ap (linked (next_at ss) U) nx ∙ linked_same (next_at d.memory.states) (next_at ss) U U U (head_of hs u) falls old_next (head_low u) (head_low u) (head_low u)))

    -- every other chain is as it was
    chain_other : (u : Triple) → slot d.memory.heads u ≢ slot d.memory.heads t → chain_of (add d t) u ≡ chain_of d u
    unfolding chain_with head_of add_with
    chain_other u e =
        let hs = d.memory.heads in
        let hd : get_or (set hs (slot hs t) (U + 1)) (slot (set hs (slot hs t) (U + 1)) u) 0 ≡ head_of hs u
        = rw slot_same (get_or-set_other hs (slot hs t) (slot hs u) (U + 1) 0 e) in
        let low = head_low u in
        ap (linked (next_at ss) (U + 1)) hd ∙ linked_same (next_at d.memory.states) (next_at ss) U (U + 1) U (head_of hs u) falls old_next low (omega (arith, low)) low

    -- what was added is found
    set_added : find (add d t) t ≡ Some U
    unfolding find_with first
    set_added = rw (chain_same t refl, new_triple, same_self)

    -- another triple is found as before
    set_other : (u : Triple) → same_triple t u ≡ false → find (add d t) u ≡ find d u
    unfolding find_with first
    set_other u e = go (ℕ_discrete (slot d.memory.heads u) (slot d.memory.heads t))
      where
        go : Dec (slot d.memory.heads u ≡ slot d.memory.heads t) → find (add d t) u ≡ find d u
        go (yes p) = rw (chain_same u p, new_triple, e) (first_alike ss old_triple u)
        go (no p) = rw (chain_other u p) (first_alike ss old_triple u)

    -- so the set holds what it held, and t
    pub holds_added : (u : Triple) → holds (add d t) u ≡ (holds d u || same_triple t u)
    unfolding holds
    holds_added u = go (same_triple t u) refl
      where
        or_true : (b : Bool) → b || true ≡ true
        or_true true = refl
        or_true false = refl

        or_none : (b : Bool) → b || false ≡ b
        or_none true = refl
        or_none false = refl

        go : (b : Bool) → same_triple t u ≡ b → is_found (find (add d t) u) ≡ (is_found (find d u) || b)
        go true e = ap is_found (ap (find (add d t)) (sym (same_triple_lem t u e)) ∙ set_added) ∙ sym (or_true (is_found (find d u)))
        go false e = ap is_found (set_other u e) ∙ sym (or_none (is_found (find d u)))

    pub headed_added : Headed (add d t)
    unfolding add_with
    headed_added = record { chained = add_chained d form.chained t room; headed = rw length-set form.headed }

-- Nothing is held in words that are all 0.
pub headed_none : (n k : ℕ) → 0 < n → Headed (set_of (replicate n 0) (replicate k 0) 0)
headed_none n k h = record {
  chained = record { fit = omega arith; head = λ i. rw (zeros n i) (omega arith); next = λ i l. absurd (omega arith) };
  headed = rw (length-replicate {A = ℕ} n 0) h;
}

pub holds_none : (heads records : List ℕ) (t : Triple) → holds (set_of heads records 0) t ≡ false
unfolding holds find_with chain_with linked first
holds_none heads records t = refl
