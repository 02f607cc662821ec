-- The form of used records as the code tests it: state records in two passes, transition records with the last link apart.
use mathlib.Core.Path.{◌≡◌, refl, ap, ap₂, ◌∙◌}
use mathlib.Core.Bool.{Bool, true, false, ◌&&◌, ◌||◌}
use mathlib.Core.List.{List, [], ◌∷◌}
use Prim.Native.Nat.{ℕ, zero, suc, ◌+◌, ◌-◌, ◌≤◌, ◌<◌}
use native.Mathlib.Omega.{arith}
use lib.Dec.{eqb, ltb, leb}
use borrow.Author.Tests.{lt-ltb, le-ltb, ne_eqb, leb-true}
use Rattle.lists.specs.Lists.{every, interval}
use Rattle.lists.proofs.Members.{and_left, and_right}
use Rattle.calls.specs.Store.{Store, state_size, tr_size, room_of, next_at, target_at, tr_next_at, state_room_with, tr_room_with}
use Rattle.calls.specs.Forms.{fits, triple_ok, expanded_ok, state_form_ok, tr_form_ok, fits_with, state_form_ok_with}
use Rattle.store_records.specs.Meaning.{stored}

-- what fits is no more than the room of each sort
pub fits_room : (d : Store) → fits d ≡ true → (d.used.states ≤ room_of state_size d.memory.states) × (d.used.trs ≤ room_of tr_size d.memory.trs)
unfolding fits_with state_room_with tr_room_with
fits_room d h = (
  leb-true _ _ (and_left (leb d.used.states (room_of state_size d.memory.states)) _ h),
  leb-true _ _ (and_right (leb d.used.states (room_of state_size d.memory.states)) _ h),
)

-- a test of two parts on a list is the two tests of each part
every_both : (P Q : ℕ → Bool) (l : List ℕ) → every (λ n. P n && Q n) l ≡ every P l && every Q l
unfolding every
every_both P Q [] = refl
every_both P Q (x ∷ xs) = ap (λ (b : Bool). (P x && Q x) && b) (every_both P Q xs) ∙ go (P x) (Q x) (every P xs) (every Q xs)
  where
    go : (a b c d : Bool) → (a && b) && (c && d) ≡ (a && c) && (b && d)
    go true true c d = refl
    go true false true d = refl
    go true false false d = refl
    go false b c d = refl

-- state records: the triples, and the other words
pub states_both : (S1 S2 : ℕ) (d : Store) (l : List ℕ) → every (state_form_ok S1 S2 d) l ≡ every (triple_ok S1 S2 d.memory.states) l && every (λ n. expanded_ok d n && leb (next_at d.memory.states n) n) l
unfolding state_form_ok_with
states_both S1 S2 d l = every_both (triple_ok S1 S2 d.memory.states) (λ n. expanded_ok d n && leb (next_at d.memory.states n) n) l

module _ (heads states trs : List ℕ) (n : ℕ) where
  -- a used target, and the next 0 or the record after it, used or not
  abbrev Linked : ℕ → Bool
  Linked i = ltb (target_at trs i) n && (eqb (tr_next_at trs i) 0 || eqb (tr_next_at trs i) (i + 2))

  -- a record before the last may lead to the one after it
  one_linked : (count i : ℕ) → i + 1 < count → tr_form_ok (stored heads states trs n count) i ≡ Linked i
  unfolding tr_form_ok
  one_linked count i h = rw (lt-ltb (i + 1) count h) (go (ltb (target_at trs i) n) (eqb (tr_next_at trs i) 0) (eqb (tr_next_at trs i) (i + 2)))
    where
      go : (a b c : Bool) → a && (b || (c && true)) ≡ a && (b || c)
      go a b true = refl
      go a b false = refl

  -- the last may not
  last_linked : (count i : ℕ) → count ≤ i + 1 → tr_form_ok (stored heads states trs n count) i ≡ Linked i && eqb (tr_next_at trs i) 0
  unfolding tr_form_ok
  last_linked count i h = rw (le-ltb (i + 1) count h) (go (ltb (target_at trs i) n) (eqb (tr_next_at trs i) 0) (eqb (tr_next_at trs i) (i + 2)))
    where
      go : (a b c : Bool) → a && (b || (c && false)) ≡ (a && (b || c)) && b
      go false b c = refl
      go true true c = refl
      go true false true = refl
      go true false false = refl

  -- the k + 1 records up to record `last`
  up_to : (last k i : ℕ) → i + k ≡ last → every (tr_form_ok (stored heads states trs n (suc last))) (interval i (suc k)) ≡ every Linked (interval i (suc k)) && eqb (tr_next_at trs last) 0
  unfolding every interval
  up_to last zero i e =
      let same : i ≡ last = omega arith in
      rw (same, last_linked (suc last) last (omega arith)) (go (Linked last) (eqb (tr_next_at trs last) 0))
    where
      go : (a b : Bool) → (a && b) && true ≡ (a && true) && b
      go true true = refl
      go true false = refl
      go false b = refl
  up_to last (suc k) i e =
      ap₂ (λ a b. a && b) (one_linked (suc last) i (omega arith)) (up_to last k (suc i) (omega arith))
      ∙ go (Linked i) (every Linked (interval (suc i) (suc k))) (eqb (tr_next_at trs last) 0)
    where
      go : (a b c : Bool) → a && (b && c) ≡ (a && b) && c
      go true b c = refl
      go false b c = refl

  -- transition records: the links of all, and the end of the last
  pub trs_both : (count : ℕ) → every (tr_form_ok (stored heads states trs n count)) (interval 0 count) ≡ every Linked (interval 0 count) && (eqb count 0 || eqb (tr_next_at trs (count - 1)) 0)
  unfolding every interval
  trs_both zero = refl
  trs_both (suc last) =
      let e : suc last - 1 ≡ last = omega arith in
      rw (ne_eqb (suc last) 0 (λ p. omega arith), e) (up_to last last 0 (omega arith))
