-- The table as a function of the triples: where each used state is found by its triple, what is found depends on the triples of the used states alone, neither on the heads nor on
-- the chains. A new state keeps this, and so do a new transition and a mark.
use mathlib.Core.Path.{◌≡◌, refl, sym, ◌∙◌, ap, subst}
use mathlib.Core.Bool.{Bool, true, false}
use Rattle.std.specs.Prelude.{Option, None, Some}
use Rattle.std.proofs.lemmas.Option.{none-some, same_Some}
use Prim.Native.Nat.{ℕ, ◌≤◌, ◌<◌}
use native.Mathlib.Omega.{arith}
use native.Mathlib.Decide.{ℕ_discrete, dec_lt}
use lib.ListN.{length}
use Rattle.words.specs.Steps.{Triple, Step}
use Rattle.calls.specs.Store.{Store, state_room, triple_at, next_at, same_triple, find, add, append, mark, add_with, chain_with, find_with, mark_with, next_with}
use Rattle.calls.proofs.RecordLaws.{next_place, triple_same}
use Rattle.calls.proofs.StoreForms.{Form}
use Rattle.calls.proofs.ChainLaws.{same_triple_lem, find_sound, find_same, add_triple, add_holds, find_added, find_other}
use Rattle.calls.proofs.FormKept.{mark_other, mark_triple, mark_next}

-- every used state is found by its triple
abbrev pub Whole : Store → Type 0
Whole d = (n : ℕ) → n < d.used.states → find d (triple_at d.memory.states n) ≡ Some n

-- then no two used states have one triple
pub whole_distinct : (d : Store) → Whole d → (i j : ℕ) → i < d.used.states → j < d.used.states → triple_at d.memory.states i ≡ triple_at d.memory.states j → i ≡ j
whole_distinct d h i j p q e = same_Some i j (sym (h i p) ∙ (ap (find d) e ∙ h j q))

module _ {S1 S2 : ℕ} (d : Store) {last : ℕ} (form : Form S1 S2 d last) (whole : Whole d) where
  -- a new state, of a triple that was not found
  pub whole_add : (t : Triple) → d.used.states < state_room d.memory → 0 < length d.memory.heads → find d t ≡ None → Whole (add d t)
  unfolding add_with
  whole_add t room headed e n h = go (dec_lt n d.used.states)
    where
      other : (u : Triple) (b : Bool) → same_triple t u ≡ b → find d u ≡ Some n → same_triple t u ≡ false
      other u true s f = absurd (none-some n (sym e ∙ (ap (find d) (same_triple_lem t u s) ∙ f)))
      other u false s f = s

      go : Dec (n < d.used.states) → find (add d t) (triple_at (add d t).memory.states n) ≡ Some n
      go (yes l) =
          let u = triple_at d.memory.states n in
          ap (find (add d t)) (add_triple d form t room headed n l) ∙ (find_other d form t room headed u (other u (same_triple t u) refl (whole n l)) ∙ whole n l)
      go (no l) =
          let z : n ≡ d.used.states = omega arith in
          ap (λ k. find (add d t) (triple_at (add d t).memory.states k)) z ∙ (ap (find (add d t)) (add_holds d form t room headed) ∙ (find_added d form t room headed ∙ ap Some (sym z)))

  -- a new transition: the table does not look at transitions
  pub whole_append : (st : Step) (target next : ℕ) → Whole (append d st target next)
  unfolding append find_with chain_with
  whole_append st target next = whole

  module _ (n first' : ℕ) (found : n < d.used.states) (within : first' ≤ d.used.trs) where
    pub marked_triple : (k : ℕ) → triple_at (mark d n first').memory.states k ≡ triple_at d.memory.states k
    marked_triple k = go (ℕ_discrete k n)
      where
        go : Dec (k ≡ n) → triple_at (mark d n first').memory.states k ≡ triple_at d.memory.states k
        go (yes e) = subst (λ j. triple_at (mark d n first').memory.states j ≡ triple_at d.memory.states j) (sym e) (mark_triple d form n first' found within)
        go (no e) = triple_same d.memory.states (mark d n first').memory.states k k (λ j h. mark_other d form n first' found within k j e (omega arith))

    marked_next : (k : ℕ) → next_at (mark d n first').memory.states k ≡ next_at d.memory.states k
    unfolding next_with
    marked_next k = go (ℕ_discrete k n)
      where
        go : Dec (k ≡ n) → next_at (mark d n first').memory.states k ≡ next_at d.memory.states k
        go (yes e) = subst (λ j. next_at (mark d n first').memory.states j ≡ next_at d.memory.states j) (sym e) (mark_next d form n first' found within)
        go (no e) = mark_other d form n first' found within k next_place e (omega arith)

    marked_find : (t : Triple) → find (mark d n first') t ≡ find d t
    unfolding mark_with
    marked_find = find_same d form (mark d n first').memory.states d.memory.trs (λ k h. marked_next k) (λ k h. marked_triple k)

    -- a mark
    pub whole_mark : Whole (mark d n first')
    unfolding mark_with
    whole_mark k h = ap (find (mark d n first')) (marked_triple k) ∙ (marked_find (triple_at d.memory.states k) ∙ whole k h)

-- two stores with the same triples find the same
pub find_alike : {S1 S2 : ℕ} (d e : Store) {last more : ℕ} → Form S1 S2 d last → Form S1 S2 e more → Whole d → Whole e → d.used.states ≡ e.used.states
    → ((n : ℕ) → n < d.used.states → triple_at e.memory.states n ≡ triple_at d.memory.states n) → (t : Triple) → find e t ≡ find d t
find_alike {S1} {S2} d e fd fe wd we u same t = go (find d t) (find e t) refl refl
  where
    -- a state that one finds, the other finds
    over : (n : ℕ) → find d t ≡ Some n → find e t ≡ Some n
    over n p =
        let r = find_sound d fd t n p in
        ap (find e) (sym (same n r.0 ∙ r.1)) ∙ we n (omega (arith, u, r.0))

    back : (n : ℕ) → find e t ≡ Some n → find d t ≡ Some n
    back n p =
        let r = find_sound e fe t n p in
        let l : n < d.used.states = omega (arith, u, r.0) in
        ap (find d) (sym (sym (same n l) ∙ r.1)) ∙ wd n l

    go : (a b : Option ℕ) → find d t ≡ a → find e t ≡ b → find e t ≡ find d t
    go (Some n) b p q = over n p ∙ sym p
    go None None p q = q ∙ sym p
    go None (Some n) p q = q ∙ sym (back n q)
