-- What an expansion does not touch: the words of the records used before it, but for the mark of its own state, and all words past the records used after it.
use mathlib.Core.Path.{◌≡◌, refl, sym, ◌∙◌, subst}
use mathlib.Core.List.{List, [], ◌∷◌}
use mathlib.Core.Logic.{◌⊎◌, inl, inr, ⊎_elim}
use Rattle.std.specs.Prelude.{Option, None, Some}
use Prim.Native.Nat.{ℕ, ◌+◌, ◌*◌, ◌≤◌, ◌<◌}
use native.Mathlib.Nat.{mul-le-mul_left}
use native.Mathlib.Omega.{arith}
use lib.Dec.{leb}
use lib.ListN.{length, get_or, length-set}
use Rattle.lists.specs.Lists.{put}
use Rattle.lists.proofs.Put.{length_put, put_before, put_after}
use Rattle.words.specs.Labels.{Checked, good, refused}
use Rattle.words.specs.Sides.{non_empty}
use Rattle.words.specs.Steps.{Triple, Step}
use Rattle.words.proofs.CheckedLaws.{good≢refused, good_is, past_check, past_then}
use Rattle.calls.specs.Store.{Store, state_size, tr_size, state_room, tr_room, expanded_place, slot, head_of, find, state_record, add, tr_record, append, mark, add_with, mark_with}
use Rattle.calls.specs.Calls.{Reached, reached_by, reach, store_step, next_for, store_steps, reach_with, store_step_with, store_steps_with}
use Rattle.calls.proofs.RecordLaws.{next_place}

-- a word of the records used before, or past the records used after, where a record has `size` words
abbrev pub Outside : ℕ → ℕ → ℕ → ℕ → Type 0
Outside size before after i = (i < size * before) ⊎ (size * after ≤ i)

-- from d to e: used counts grow, lengths and outside words stay
pub record Stays (d e : Store) : Type 0 where
  pub states : d.used.states ≤ e.used.states
  pub trs : d.used.trs ≤ e.used.trs
  pub heads_length : length e.memory.heads ≡ length d.memory.heads
  pub states_length : length e.memory.states ≡ length d.memory.states
  pub trs_length : length e.memory.trs ≡ length d.memory.trs
  pub state_word_lem : (i : ℕ) → Outside state_size d.used.states e.used.states i → get_or e.memory.states i 0 ≡ get_or d.memory.states i 0
  pub tr_word_lem : (i : ℕ) → Outside tr_size d.used.trs e.used.trs i → get_or e.memory.trs i 0 ≡ get_or d.memory.trs i 0

stays : (d : Store) → Stays d d
stays d = record { states = omega arith; trs = omega arith; heads_length = refl; states_length = refl; trs_length = refl; state_word_lem = λ i h. refl; tr_word_lem = λ i h. refl }

-- outside of a longer stretch is outside of each part of it
before : (size a b c i : ℕ) → b ≤ c → Outside size a c i → Outside size a b i
before size a b c i h = ⊎_elim inl (λ l. inr (omega (arith, l, mul-le-mul_left size h)))

behind : (size a b c i : ℕ) → a ≤ b → Outside size a c i → Outside size b c i
behind size a b c i h = ⊎_elim (λ l. inl (omega (arith, l, mul-le-mul_left size h))) inr

onward : (d e f : Store) → Stays d e → Stays e f → Stays d f
onward d e f p q = record {
  states = omega (arith, p.states, q.states);
  trs = omega (arith, p.trs, q.trs);
  heads_length = q.heads_length ∙ p.heads_length;
  states_length = q.states_length ∙ p.states_length;
  trs_length = q.trs_length ∙ p.trs_length;
  state_word_lem = λ i h. q.state_word_lem i (behind state_size d.used.states e.used.states f.used.states i p.states h) ∙ p.state_word_lem i (before state_size d.used.states e.used.states f.used.states i q.states h);
  tr_word_lem = λ i h. q.tr_word_lem i (behind tr_size d.used.trs e.used.trs f.used.trs i p.trs h) ∙ p.tr_word_lem i (before tr_size d.used.trs e.used.trs f.used.trs i q.trs h);
}

-- a record written in the first unused place
written : (size : ℕ) (l r : List ℕ) (used i : ℕ) → length r ≡ size → Outside size used (used + 1) i → get_or (put l (size * used) r) i 0 ≡ get_or l i 0
written size l r used i e = ⊎_elim (λ h. put_before l (size * used) r i 0 h) (λ h. put_after l (size * used) r i 0 (omega (arith, h, e)))

pub add_stays : (d : Store) (t : Triple) → Stays d (add d t)
unfolding add_with
add_stays d t = record {
  states = omega arith;
  trs = omega arith;
  heads_length = length-set d.memory.heads (slot d.memory.heads t) (d.used.states + 1);
  states_length = length_put d.memory.states (state_size * d.used.states) (state_record t (head_of d.memory.heads t));
  trs_length = refl;
  state_word_lem = λ i h. written state_size d.memory.states (state_record t (head_of d.memory.heads t)) d.used.states i refl h;
  tr_word_lem = λ i h. refl;
}

pub append_stays : (d : Store) (st : Step) (target next : ℕ) → Stays d (append d st target next)
unfolding append
append_stays d st target next = record {
  states = omega arith;
  trs = omega arith;
  heads_length = refl;
  states_length = refl;
  trs_length = length_put d.memory.trs (tr_size * d.used.trs) (tr_record st target next);
  state_word_lem = λ i h. refl;
  tr_word_lem = λ i h. written tr_size d.memory.trs (tr_record st target next) d.used.trs i refl h;
}

reached_stays : (d : Store) (t : Triple) (o : Option ℕ) (r : Reached) → reached_by d t o ≡ good r → Stays d r.store
reached_stays d t (Some n) r e = subst (λ (q : Reached). Stays d q.store) (good_is e) (stays d)
reached_stays d t None r e =
    let c = past_check (leb (state_room d.memory) d.used.states) 13 _ r e in
    subst (λ (q : Reached). Stays d q.store) (good_is c.1) (add_stays d t)

pub step_stays : (d : Store) (next : ℕ) (st : Step) (e : Store) → store_step d next st ≡ good e → Stays d e
unfolding store_step_with reach_with
step_stays d next st e g =
    let c = past_check (leb (tr_room d.memory) d.used.trs) 13 _ e g in
    let r = past_then (reach d st.to) _ e c.1 in
    let f = append r.0.store st r.0.state next in
    subst (Stays d) (good_is r.2) (onward d r.0.store f (reached_stays d st.to (find d st.to) r.0 r.1) (append_stays r.0.store st r.0.state next))

-- all steps of an expansion
pub steps_stay : (d : Store) (steps : List (Checked Step)) (e : Store) → store_steps d steps ≡ good e → Stays d e
unfolding store_steps_with
steps_stay d [] e g = subst (Stays d) (good_is g) (stays d)
steps_stay d (refused n ∷ others) e g = absurd (good≢refused (sym g))
steps_stay d (good st ∷ others) e g =
    let m = past_then (store_step d (next_for d (non_empty others)) st) _ e g in
    onward d m.0 e (step_stays d (next_for d (non_empty others)) st m.0 m.1) (steps_stay m.0 others e m.2)

-- the mark changes two words of its state's record
pub mark_stays : (d : Store) (n first i : ℕ) → (i < state_size * n + expanded_place) ⊎ (state_size * n + next_place ≤ i) → get_or (mark d n first).memory.states i 0 ≡ get_or d.memory.states i 0
unfolding mark_with
mark_stays d n first i = ⊎_elim (λ h. put_before d.memory.states (state_size * n + expanded_place) (1 ∷ first ∷ []) i 0 h) (λ h. put_after d.memory.states (state_size * n + expanded_place) (1 ∷ first ∷ []) i 0 (omega (arith, h)))
