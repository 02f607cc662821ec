-- Chains and the table of states, on any memory in form: a state found is a used one with its triple; a state just added stands at the head of its chain and is found;
-- every other triple is found as before.
use mathlib.Core.Path.{◌≡◌, refl, sym, ◌∙◌, ap}
use mathlib.Core.Bool.{true, false}
use mathlib.Core.List.{List, ◌∷◌, Memᴰ as In}
use mathlib.Core.Logic.{◌≢◌}
use Rattle.std.specs.Prelude.{Some}
use Prim.Native.Nat.{ℕ, suc, ◌+◌, ◌*◌, ◌≤◌, ◌<◌}
use native.Mathlib.Nat.{mod-lt}
use native.Mathlib.Numerals.{add-one}
use native.Mathlib.Omega.{arith}
use native.Mathlib.Decide.{ℕ_discrete}
use lib.Dec.{eqb}
use lib.ListN.{length, get_or, set, length-set}
use lib.Seq.{get_or-set_same, get_or-set_other}
use borrow.Author.Tests.{eqb-true, eq-eqb}
use Rattle.lists.specs.Lists.{first, linked}
use Rattle.lists.proofs.Members.{and_left, and_right}
use Rattle.lists.proofs.Links.{first_sound, first_same, Falls, linked_below, linked_same}
use Rattle.words.specs.Steps.{Triple}
use Rattle.calls.specs.Store.{Store, state_size, state_room, state_field, triple_at, next_at, slot, head_of, chain_of, same_triple, find, state_record, add, add_with, chain_with, find_with, next_with, state_room_with}
use Rattle.calls.proofs.RecordLaws.{next_place, room_words, field_before, field_new, triple_before}
use Rattle.calls.proofs.StoreForms.{Form}

-- the test compares triples
pub same_triple_lem : (a b : Triple) → same_triple a b ≡ true → a ≡ b
unfolding same_triple
same_triple_lem a b e =
    let r = and_right (eqb a.s1 b.s1) _ e in
    let p = eqb-true _ _ (and_left (eqb a.s1 b.s1) _ e) in
    let q = eqb-true _ _ (and_left (eqb a.s2 b.s2) _ r) in
    let f = eqb-true _ _ (and_right (eqb a.s2 b.s2) _ r) in
    λ i. record { s1 = p i; s2 = q i; f = f i }

pub same_self : (a : Triple) → same_triple a a ≡ true
unfolding same_triple
same_self a = rw (eq-eqb a.s1 a.s1 refl, eq-eqb a.s2 a.s2 refl, eq-eqb a.f a.f refl)

pub slot_in : (heads : List ℕ) (t : Triple) → 0 < length heads → slot heads t < length heads
unfolding slot
slot_in heads t h = mod-lt (t.s1 + 31 * t.s2 + t.f) h

-- a written head changes no slot
slot_same : (heads : List ℕ) (i v : ℕ) (t : Triple) → slot (set heads i v) t ≡ slot heads t
unfolding slot
slot_same heads i v t = rw length-set

module _ {S1 S2 : ℕ} (d : Store) {last : ℕ} (form : Form S1 S2 d last) where
  abbrev U : ℕ
  U = d.used.states

  falls : Falls (next_at d.memory.states) U
  falls n h = (form.state n h).next

  head_low : (t : Triple) → head_of d.memory.heads t ≤ U
  unfolding head_of
  head_low t = form.head (slot d.memory.heads t)

  -- the states of a chain are used ones
  pub chain_below : (t : Triple) {n : ℕ} → In n (chain_of d t) → n < U
  unfolding chain_with
  chain_below t i = let r = linked_below (next_at d.memory.states) U U (head_of d.memory.heads t) falls (head_low t) i in omega (arith, r, head_low t)

  -- a state found is a used one, with that triple
  pub find_sound : (t : Triple) (n : ℕ) → find d t ≡ Some n → (n < U) × (triple_at d.memory.states n ≡ t)
  unfolding find_with
  find_sound t n e =
      let r = first_sound (λ k. same_triple (triple_at d.memory.states k) t) (chain_of d t) n e in
      (chain_below t r.0, same_triple_lem (triple_at d.memory.states n) t r.1)

  -- other records of states, with the same triples where a state is used: the same of a chain is found
  first_alike : (ss : List ℕ) → ((n : ℕ) → n < U → triple_at ss n ≡ triple_at d.memory.states n) → (t : Triple) → first (λ n. same_triple (triple_at ss n) t) (chain_of d t) ≡ find d t
  unfolding find_with
  first_alike ss same t = first_same (λ n. same_triple (triple_at ss n) t) (λ n. same_triple (triple_at d.memory.states n) t) (chain_of d t) (λ n i. ap (λ u. same_triple u t) (same n (chain_below t i)))

  -- and with the same links too, under the same heads: the same is found
  pub find_same : (ss ts : List ℕ) → ((n : ℕ) → n < U → next_at ss n ≡ next_at d.memory.states n) → ((n : ℕ) → n < U → triple_at ss n ≡ triple_at d.memory.states n) → (t : Triple)
      → find (record { memory = record { heads = d.memory.heads; states = ss; trs = ts }; used = d.used }) t ≡ find d t
  unfolding find_with chain_with
  find_same ss ts links same t =
      let low = head_low t in
      ap (first (λ n. same_triple (triple_at ss n) t)) (linked_same (next_at d.memory.states) (next_at ss) U U U (head_of d.memory.heads t) falls links low low low) ∙ first_alike ss same t

  module _ (t : Triple) (room : U < state_room d.memory) (headed : 0 < length d.memory.heads) where
    abbrev new : List ℕ
    new = state_record t (head_of d.memory.heads t)

    abbrev ss : List ℕ
    ss = (add d t).memory.states

    fits : state_size * U + state_size ≤ length d.memory.states
    unfolding state_room_with
    fits = let r = room_words state_size d.memory.states (suc U) room in omega (arith, r.1)

    -- the records before it stay
    pub add_field : (n k : ℕ) → n < U → k < state_size → state_field ss n k ≡ state_field d.memory.states n k
    unfolding add_with
    add_field n k h l = field_before d.memory.states new U n k h l

    pub add_new : (k : ℕ) → k < state_size → state_field ss U k ≡ get_or new k 0
    unfolding add_with
    add_new k h = field_new d.memory.states new U k h fits

    pub add_triple : (n : ℕ) → n < U → triple_at ss n ≡ triple_at d.memory.states n
    unfolding add_with
    add_triple n h = triple_before d.memory.states new U n h

    -- the new record holds the triple
    pub add_holds : triple_at ss U ≡ t
    unfolding triple_at
    add_holds =
        let p : state_field ss U 0 ≡ t.s1 = add_new 0 (omega arith) in
        let q : state_field ss U 1 ≡ t.s2 = add_new 1 (omega arith) in
        let r : state_field ss U 2 ≡ t.f = add_new 2 (omega arith) in
        λ i. record { s1 = p i; s2 = q i; f = r i }

    next_old : (n : ℕ) → n < U → next_at ss n ≡ next_at d.memory.states n
    unfolding next_with
    next_old n h = add_field n next_place h (omega arith)

    -- the chain of its head begins with it
    pub add_chain_same : (u : Triple) → slot d.memory.heads u ≡ slot d.memory.heads t → chain_of (add d t) u ≡ U ∷ chain_of d u
    unfolding chain_with head_of add_with linked next_with
    add_chain_same u e =
        let hs = d.memory.heads in
        let hd : get_or (set hs (slot hs t) (U + 1)) (slot (set hs (slot hs t) (U + 1)) u) 0 ≡ suc U
        = rw (slot_same, e) (get_or-set_same hs (slot hs t) (U + 1) 0 (slot_in hs t headed) ∙ add-one U) in
        let nx : next_at ss U ≡ head_of hs u = add_new next_place (omega arith) ∙ ap (λ i. get_or hs i 0) (sym e) in
        rw (hd, add-one)
        (ap (λ (l : List ℕ). U ∷ l)
        (ap (linked (next_at ss) U) nx ∙ linked_same (next_at d.memory.states) (next_at ss) U U U (head_of hs u) falls next_old (head_low u) (head_low u) (head_low u)))

    -- every other chain is as it was
    pub add_chain_other : (u : Triple) → slot d.memory.heads u ≢ slot d.memory.heads t → chain_of (add d t) u ≡ chain_of d u
    unfolding chain_with head_of add_with
    add_chain_other u e =
        let hs = d.memory.heads in
        let hd : get_or (set hs (slot hs t) (U + 1)) (slot (set hs (slot hs t) (U + 1)) u) 0 ≡ head_of hs u
        = rw slot_same (get_or-set_other hs (slot hs t) (slot hs u) (U + 1) 0 e) in
        let low = head_low u in
        ap (linked (next_at ss) (U + 1)) hd ∙ linked_same (next_at d.memory.states) (next_at ss) U (U + 1) U (head_of hs u) falls next_old low (omega (arith, low)) low

    -- what was added is found
    pub find_added : find (add d t) t ≡ Some U
    unfolding find_with first
    find_added = rw (add_chain_same t refl, add_holds, same_self)

    -- another triple is found as before
    pub find_other : (u : Triple) → same_triple t u ≡ false → find (add d t) u ≡ find d u
    unfolding find_with first
    find_other u e = go (ℕ_discrete (slot d.memory.heads u) (slot d.memory.heads t))
      where
        go : Dec (slot d.memory.heads u ≡ slot d.memory.heads t) → find (add d t) u ≡ find d u
        go (yes p) = rw (add_chain_same u p, add_holds, e) (first_alike ss add_triple u)
        go (no p) = rw (add_chain_other u p) (first_alike ss add_triple u)
