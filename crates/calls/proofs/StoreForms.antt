-- What form says, fact by fact, and back: the test is true just where the facts hold.
use mathlib.Core.Path.{◌≡◌, refl}
use mathlib.Core.Bool.{Bool, true, ◌&&◌, ◌||◌, and-eq-true_iff, false≢true}
use mathlib.Core.List.{List, [], ◌∷◌}
use mathlib.Core.Logic.{◌⊎◌, inl, inr, ⊎_elim}
use Prim.Native.Nat.{ℕ, zero, suc, ◌+◌, ◌≤◌, ◌<◌}
use native.Mathlib.Omega.{arith}
use native.Mathlib.Decide.{dec_lt}
use lib.Dec.{eqb, ltb, leb}
use lib.ListN.{length, get_or, get_or-eq_default}
use borrow.Author.Tests.{eqb-true, ltb-true, leb-true, eq-eqb, lt-ltb, le-leb}
use Rattle.lists.specs.Lists.{every, interval}
use Rattle.lists.proofs.Members.{and_left, and_right, or_cases, or_left, or_right, every_in, every_of, in_interval, of_interval}
use Rattle.lists.proofs.Places.{every_get, every_by}
use Rattle.words.specs.Sides.{non_empty}
use Rattle.words.proofs.StepRange.{InRange}
use Rattle.calls.specs.Store.{Store, state_room, tr_room, triple_at, expanded_at, first_at, next_at, target_at, tr_next_at}
use Rattle.calls.specs.Forms.{fits, heads_ok, triple_ok, expanded_ok, state_form_ok, tr_form_ok, form_ok, expanded_ok_with, fits_with, form_ok_with, state_form_ok_with, triple_ok_with}

-- the record of state n, where `trs` transition records are used
pub record StateForm (S1 S2 : ℕ) (states : List ℕ) (trs n : ℕ) : Type 0 where
  pub triple : InRange S1 S2 (triple_at states n)
  pub expanded : expanded_at states n ≤ 1
  pub unexpanded : (expanded_at states n ≡ 1) ⊎ (first_at states n ≡ 0)
  pub first : first_at states n ≤ trs
  pub next : next_at states n ≤ n

-- transition record i + 1, where `states` state records are used and the last record of all chains is `last`
pub record TrForm (trs : List ℕ) (states last i : ℕ) : Type 0 where
  pub target : target_at trs i < states
  pub next : (tr_next_at trs i ≡ 0) ⊎ ((tr_next_at trs i ≡ i + 2) × (i + 1 < last))

-- a store whose used records fit their rooms and are in form; `last` is the number of used transition records, and more while a chain is being written
pub record Form (S1 S2 : ℕ) (d : Store) (last : ℕ) : Type 0 where
  pub states_fit : d.used.states ≤ state_room d.memory
  pub trs_fit : d.used.trs ≤ tr_room d.memory
  pub head : (h : ℕ) → get_or d.memory.heads h 0 ≤ d.used.states
  pub headed : 0 < d.used.states → 0 < length d.memory.heads
  pub state : (n : ℕ) → n < d.used.states → StateForm S1 S2 d.memory.states d.used.trs n
  pub tr : (i : ℕ) → i < d.used.trs → TrForm d.memory.trs d.used.states last i

join : {a b : Bool} → a ≡ true → b ≡ true → a && b ≡ true
join {a} {b} p q = (and-eq-true_iff a b).1 (p, q)

pub some_head : (l : List ℕ) → non_empty l ≡ true → 0 < length l
some_head [] e = absurd (false≢true e)
some_head (x ∷ xs) e = omega arith

pub of_some_head : (l : List ℕ) → 0 < length l → non_empty l ≡ true
of_some_head [] h = absurd (omega arith)
of_some_head (x ∷ xs) h = refl

module _ (S1 S2 : ℕ) (d : Store) where
  abbrev U : ℕ
  U = d.used.states

  abbrev V' : ℕ
  V' = d.used.trs

  abbrev ss : List ℕ
  ss = d.memory.states

  abbrev ts : List ℕ
  ts = d.memory.trs

  state_form : (n : ℕ) → state_form_ok S1 S2 d n ≡ true → StateForm S1 S2 ss V' n
  unfolding state_form_ok_with triple_ok_with expanded_ok_with
  state_form n e =
      let a = and_left (triple_ok S1 S2 ss n) _ e in
      let b = and_right (triple_ok S1 S2 ss n) _ e in
      let x = and_left (expanded_ok d n) _ b in
      let a' = and_right (ltb (triple_at ss n).s1 S1) _ a in
      let x' = and_right (leb (expanded_at ss n) 1) _ x in
      let o = and_left (eqb (expanded_at ss n) 1 || eqb (first_at ss n) 0) _ x' in
      record {
        triple = record {
          s1 = ltb-true _ _ (and_left (ltb (triple_at ss n).s1 S1) _ a);
          s2 = ltb-true _ _ (and_left (ltb (triple_at ss n).s2 S2) _ a');
          f = leb-true _ _ (and_right (ltb (triple_at ss n).s2 S2) _ a');
        };
        expanded = leb-true _ _ (and_left (leb (expanded_at ss n) 1) _ x);
        unexpanded = ⊎_elim (λ p. inl (eqb-true _ _ p)) (λ p. inr (eqb-true _ _ p)) (or_cases (eqb (expanded_at ss n) 1) (eqb (first_at ss n) 0) o);
        first = leb-true _ _ (and_right (eqb (expanded_at ss n) 1 || eqb (first_at ss n) 0) _ x');
        next = leb-true _ _ (and_right (expanded_ok d n) _ b);
      }

  of_state_form : (n : ℕ) → StateForm S1 S2 ss V' n → state_form_ok S1 S2 d n ≡ true
  unfolding state_form_ok_with triple_ok_with expanded_ok_with
  of_state_form n h =
      let t : triple_ok S1 S2 ss n ≡ true = join (lt-ltb _ _ h.triple.s1) (join (lt-ltb _ _ h.triple.s2) (le-leb _ _ h.triple.f)) in
      let o : eqb (expanded_at ss n) 1 || eqb (first_at ss n) 0 ≡ true = ⊎_elim (λ e. or_left (eqb (expanded_at ss n) 1) _ (eq-eqb _ _ e)) (λ e. or_right (eqb (expanded_at ss n) 1) _ (eq-eqb _ _ e)) h.unexpanded in
      let x : expanded_ok d n ≡ true = join (le-leb _ _ h.expanded) (join o (le-leb _ _ h.first)) in
      join t (join x (le-leb _ _ h.next))

  tr_form : (i : ℕ) → tr_form_ok d i ≡ true → TrForm ts U V' i
  unfolding tr_form_ok
  tr_form i e =
      let o = and_right (ltb (target_at ts i) U) _ e in
      record {
        target = ltb-true _ _ (and_left (ltb (target_at ts i) U) _ e);
        next =
            ⊎_elim (λ p. inl (eqb-true _ _ p)) (λ p. inr (eqb-true _ _ (and_left (eqb (tr_next_at ts i) (i + 2)) _ p), ltb-true _ _ (and_right (eqb (tr_next_at ts i) (i + 2)) _ p)))
            (or_cases (eqb (tr_next_at ts i) 0) (eqb (tr_next_at ts i) (i + 2) && ltb (i + 1) V') o);
      }

  of_tr_form : (i : ℕ) → TrForm ts U V' i → tr_form_ok d i ≡ true
  unfolding tr_form_ok
  of_tr_form i h =
      join (lt-ltb _ _ h.target)
      (⊎_elim (λ e. or_left (eqb (tr_next_at ts i) 0) _ (eq-eqb _ _ e)) (λ e. or_right (eqb (tr_next_at ts i) 0) _ (join (eq-eqb _ _ e.0) (lt-ltb _ _ e.1))) h.next)

  -- a head past the last reads as 0
  head_form : (h : ℕ) → heads_ok d ≡ true → Dec (h < length d.memory.heads) → get_or d.memory.heads h 0 ≤ U
  unfolding heads_ok
  head_form h e (yes l) = leb-true _ _ (every_get (λ k. leb k U) d.memory.heads h 0 (and_left (every (λ k. leb k U) d.memory.heads) _ e) l)
  head_form h e (no l) = rw (get_or-eq_default d.memory.heads 0 {n = h} (omega arith)) (omega arith)

  headed_form : heads_ok d ≡ true → 0 < U → 0 < length d.memory.heads
  unfolding heads_ok
  headed_form e h =
      ⊎_elim (λ z. let p = eqb-true U 0 z in absurd (omega arith)) (some_head d.memory.heads)
      (or_cases (eqb U 0) (non_empty d.memory.heads) (and_right (every (λ k. leb k U) d.memory.heads) _ e))

  -- form alone, of memory that fits or not: each used record's facts
  pub form_state : form_ok S1 S2 d ≡ true → (n : ℕ) → n < U → StateForm S1 S2 ss V' n
  unfolding form_ok_with
  form_state e n l = state_form n (every_in (state_form_ok S1 S2 d) (and_left (every (state_form_ok S1 S2 d) (interval 0 U)) _ (and_right (heads_ok d) _ e)) (in_interval 0 U n (omega arith) (omega arith)))

  pub form_tr : form_ok S1 S2 d ≡ true → (i : ℕ) → i < V' → TrForm ts U V' i
  unfolding form_ok_with
  form_tr e i l = tr_form i (every_in (tr_form_ok d) (and_right (every (state_form_ok S1 S2 d) (interval 0 U)) _ (and_right (heads_ok d) _ e)) (in_interval 0 V' i (omega arith) (omega arith)))

  -- refusal 8's tests of memory say these facts
  pub form_of : fits d ≡ true → form_ok S1 S2 d ≡ true → Form S1 S2 d V'
  unfolding fits_with form_ok_with
  form_of a e =
      let h = and_left (heads_ok d) _ e in
      record {
        states_fit = leb-true _ _ (and_left (leb U (state_room d.memory)) _ a);
        trs_fit = leb-true _ _ (and_right (leb U (state_room d.memory)) _ a);
        head = λ k. head_form k h (dec_lt k (length d.memory.heads));
        headed = headed_form h;
        state = form_state e;
        tr = form_tr e;
      }

  heads_ok_lem : Form S1 S2 d V' → heads_ok d ≡ true
  unfolding heads_ok
  heads_ok_lem h =
      join (every_by (λ k. leb k U) d.memory.heads 0 (λ k l. le-leb _ _ (h.head k)))
      (go U refl)
    where
      go : (u : ℕ) → U ≡ u → eqb U 0 || non_empty d.memory.heads ≡ true
      go zero e = or_left (eqb U 0) _ (eq-eqb _ _ e)
      go (suc u) e = or_right (eqb U 0) _ (of_some_head d.memory.heads (h.headed (omega arith)))

  -- and where the facts hold, the tests do
  pub of_form : Form S1 S2 d V' → (fits d ≡ true) × (form_ok S1 S2 d ≡ true)
  unfolding fits_with form_ok_with
  of_form h = (
    join (le-leb _ _ h.states_fit) (le-leb _ _ h.trs_fit),
    join (heads_ok_lem h)
        (join (every_of (state_form_ok S1 S2 d) (interval 0 U) (λ n i. let b = of_interval 0 U i in of_state_form n (h.state n (omega (arith, b.1)))))
        (every_of (tr_form_ok d) (interval 0 V') (λ n i. let b = of_interval 0 V' i in of_tr_form n (h.tr n (omega (arith, b.1)))))),
  )
