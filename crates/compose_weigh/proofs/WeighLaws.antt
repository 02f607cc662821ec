-- The weighing refuses just where storing would, with the same number. In the store grown by the first steps a triple is missing just where the table lacked it and none of those
-- steps went to it; form is kept along, so the laws of the chains hold at each step. Only form is assumed: memory that passes the checks need not come from calls.
use mathlib.Core.Path.{◌≡◌, refl, sym, ◌∙◌, ap}
use mathlib.Core.Bool.{Bool, true, false, not, ◌&&◌, ◌||◌, and-true, and-false, or-false, or_assoc}
use mathlib.Core.List.Memᴰ.{head as here}
use mathlib.Core.List.Memᴰ.{tail as there}
use mathlib.Core.List.{List, [], ◌∷◌, Memᴰ as In}
use Rattle.std.specs.Prelude.{Option, None, Some}
use Prim.Native.Nat.{ℕ, zero, suc, ◌+◌, ◌*◌, ◌<◌}
use native.Mathlib.Omega.{arith}
use native.Mathlib.Numerals.{add-one}
use lib.Dec.{leb}
use lib.ListN.{length}
use borrow.Author.Tests.{leb-false}
use Rattle.lists.proofs.Put.{length_put}
use Rattle.words.specs.Labels.{Checked, good, refused, refuse_if, and_then}
use Rattle.words.specs.Sides.{non_empty}
use Rattle.words.specs.Steps.{Triple, Step}
use Rattle.words.proofs.StepRange.{InRange}
use Rattle.calls.specs.Store.{Store, state_size, tr_size, state_room, tr_room, head_of, same_triple, find, state_record, add, tr_record, append, add_with, chain_with, find_with, state_room_with, tr_room_with}
use Rattle.calls.specs.Calls.{Reached, reached_by, reach, next_for, store_steps, reach_with, store_step_with, store_steps_with}
use Rattle.calls.proofs.RecordLaws.{room_same}
use Rattle.calls.proofs.StoreForms.{Form}
use Rattle.calls.proofs.ChainLaws.{same_triple_lem, find_sound, find_added, find_other}
use Rattle.calls.proofs.FormKept.{add_form, append_form}
use Rattle.calls.proofs.StepsKept.{LinkOk, link_ok, longer}
use Rattle.compose_weigh.specs.Weigh.{reached_within, missing, is_new, count_state, weigh_from, weigh_of}
use Rattle.compose_weigh.specs.Windows.{Ahead}

pub ahead_next : (i : ℕ) (all : List (Checked Step)) (s : Step) (others : List (Checked Step)) → Ahead i all (good s ∷ others) → Ahead (suc i) all others
ahead_next zero all s others e = rw e refl
ahead_next (suc i) [] s others e = absurd e
ahead_next (suc i) (refused n ∷ all) s others e = absurd e
ahead_next (suc i) (good r ∷ all) s others e = ahead_next i all s others e

-- one step more
pub within_next : (t : Triple) (i : ℕ) (all : List (Checked Step)) (s : Step) (others : List (Checked Step)) → Ahead i all (good s ∷ others)
    → reached_within t (suc i) all ≡ (reached_within t i all || same_triple s.to t)
unfolding reached_within
within_next t zero all s others e = rw e (or-false (same_triple s.to t))
within_next t (suc i) [] s others e = absurd e
within_next t (suc i) (refused n ∷ all) s others e = absurd e
within_next t (suc i) (good r ∷ all) s others e =
    ap (λ b. same_triple r.to t || b) (within_next t i all s others e) ∙ sym (or_assoc (same_triple r.to t) (reached_within t i all) (same_triple s.to t))

pub less : (a b c : Bool) → a && not (b || c) ≡ (a && not b) && not c
less false b c = refl
less true true c = refl
less true false c = refl

pub new_next : (d : Store) (i : ℕ) (all : List (Checked Step)) (s : Step) (others : List (Checked Step)) → Ahead i all (good s ∷ others) → (t : Triple)
    → is_new d all (suc i) t ≡ (is_new d all i t && not (same_triple s.to t))
unfolding is_new
new_next d i all s others e t = rw (within_next t i all s others e) (less (missing (find d t)) (reached_within t i all) (same_triple s.to t))

-- the store e, to which d has grown by the first i steps
record Grown (S1 S2 : ℕ) (d : Store) (all : List (Checked Step)) (last i : ℕ) (e : Store) : Type 0 where
  form : Form S1 S2 e last
  state_room_lem : state_room d.memory ≡ state_room e.memory
  tr_room_lem : tr_room d.memory ≡ tr_room e.memory
  trs : d.used.trs + i ≡ e.used.trs
  any : 0 < e.used.states
  lacks : (t : Triple) → is_new d all i t ≡ missing (find e t)

-- a triple is missing after a step just where it was and is not the step's target
lacks_next : (e f : Store) (to : Triple) (n : ℕ) → find f to ≡ Some n → ((t : Triple) → same_triple to t ≡ false → find f t ≡ find e t) → (t : Triple)
    → (missing (find e t) && not (same_triple to t)) ≡ missing (find f t)
lacks_next e f to n found other t = go (same_triple to t) refl
  where
    go : (b : Bool) → same_triple to t ≡ b → (missing (find e t) && not b) ≡ missing (find f t)
    go true p = and-false (missing (find e t)) ∙ sym (ap missing (ap (find f) (sym (same_triple_lem to t p)) ∙ found))
    go false p = and-true (missing (find e t)) ∙ ap missing (sym (other t p))

module _ {S1 S2 : ℕ} (d : Store) (all : List (Checked Step)) (last : ℕ) where
  -- a transition record, and the state of its target
  append_grown : (e f : Store) (i n next : ℕ) (s : Step) (others : List (Checked Step)) → Grown S1 S2 d all last i e → Ahead i all (good s ∷ others)
      → Form S1 S2 f last → state_room f.memory ≡ state_room e.memory → tr_room f.memory ≡ tr_room e.memory → f.used.trs ≡ e.used.trs → n < f.used.states
      → e.used.trs < tr_room e.memory → LinkOk e last next
      → find f s.to ≡ Some n → ((t : Triple) → same_triple s.to t ≡ false → find f t ≡ find e t)
      → Grown S1 S2 d all last (suc i) (append f s n next)
  unfolding append find_with chain_with tr_room_with state_room_with
  append_grown e f i n next s others g a form sr tr same inside room l found other = record {
    form = append_form f form s n next inside (rw (same, tr) room) (rw same l);
    state_room_lem = g.state_room_lem ∙ sym sr;
    tr_room_lem = g.tr_room_lem ∙ sym tr ∙ sym (room_same tr_size f.memory.trs (append f s n next).memory.trs (length_put f.memory.trs (tr_size * f.used.trs) (tr_record s n next)));
    trs = omega (arith, g.trs, same);
    any = omega (arith, inside);
    lacks = λ t. new_next d i all s others a t ∙ ap (λ b. b && not (same_triple s.to t)) (g.lacks t) ∙ lacks_next e f s.to n found other t;
  }

  module _ (i : ℕ) (e : Store) (s : Step) (others : List (Checked Step)) (g : Grown S1 S2 d all last i e) (a : Ahead i all (good s ∷ others)) (ok : InRange S1 S2 s.to)
      (room : e.used.trs < tr_room e.memory) (h : e.used.trs + suc (length others) ≡ last) where
    abbrev next : ℕ
    next = next_for e (non_empty others)

    found_grown : (n : ℕ) → find e s.to ≡ Some n → Grown S1 S2 d all last (suc i) (append e s n next)
    found_grown n p = append_grown e e i n next s others g a g.form refl refl refl (find_sound e g.form s.to n p).0 room (link_ok e last others (omega arith)) p (λ t q. refl)

    new_grown : e.used.states < state_room e.memory → Grown S1 S2 d all last (suc i) (append (add e s.to) s e.used.states next)
    unfolding add_with state_room_with tr_room_with
    new_grown more =
        let headed = g.form.headed g.any in
        append_grown e (add e s.to) i e.used.states next s others g a (add_form e g.form s.to ok more headed)
        (room_same state_size e.memory.states (add e s.to).memory.states (length_put e.memory.states (state_size * e.used.states) (state_record s.to (head_of e.memory.heads s.to))))
        refl refl (omega arith) room (link_ok e last others (omega arith))
        (find_added e g.form s.to more headed) (find_other e g.form s.to more headed)

    abbrev Told : Store → Type 0
    Told f = weigh_from d all (i + 1) f.used.states others ≡ and_then (store_steps f others) (λ x. good tt)

    abbrev rest : Checked Store → Checked (Unit {0})
    rest x = and_then (and_then x (λ f. store_steps f others)) (λ y. good tt)

    abbrev put : Reached → Checked Store
    put r = good (append r.store s r.state next)

    -- a new state has a record, or 13
    by_room : (b : Bool) → leb (state_room e.memory) e.used.states ≡ b → ((f : Store) → Grown S1 S2 d all last (suc i) f → f.used.trs + length others ≡ last → Told f)
        → and_then (refuse_if b 13 (good (e.used.states + 1))) (λ v. weigh_from d all (i + 1) v others) ≡ rest (and_then (refuse_if b 13 (good (record { store = add e s.to; state = e.used.states }))) put)
    unfolding add_with append
    by_room true p rec = refl
    by_room false p rec = rec (append (add e s.to) s e.used.states next) (new_grown (leb-false _ _ p)) (omega (arith, h))

    -- the target stands in the grown table or not
    by_find : (o : Option ℕ) → find e s.to ≡ o → ((f : Store) → Grown S1 S2 d all last (suc i) f → f.used.trs + length others ≡ last → Told f)
        → and_then (count_state (missing o) (state_room e.memory) e.used.states) (λ v. weigh_from d all (i + 1) v others)
        ≡ rest (and_then (reached_by e s.to o) put)
    unfolding append count_state
    by_find (Some n) p rec = rec (append e s n next) (found_grown n p) (omega (arith, h))
    by_find None p rec = by_room (leb (state_room e.memory) e.used.states) refl rec

  -- its transition record is there, or 13
  by_tr : (i : ℕ) (e : Store) (s : Step) (others : List (Checked Step)) → Grown S1 S2 d all last i e → Ahead i all (good s ∷ others) → InRange S1 S2 s.to → e.used.trs + suc (length others) ≡ last
      → (b : Bool) → leb (tr_room e.memory) e.used.trs ≡ b
      → ((f : Store) → Grown S1 S2 d all last (suc i) f → f.used.trs + length others ≡ last → weigh_from d all (i + 1) f.used.states others ≡ and_then (store_steps f others) (λ x. good tt))
      → refuse_if b 13 (and_then (count_state (missing (find e s.to)) (state_room e.memory) e.used.states) (λ v. weigh_from d all (i + 1) v others))
      ≡ and_then (and_then (refuse_if b 13 (and_then (reach e s.to) (λ r. good (append r.store s r.state (next_for e (non_empty others)))))) (λ f. store_steps f others)) (λ x. good tt)
  unfolding reach_with
  by_tr i e s others g a ok h true p rec = refl
  by_tr i e s others g a ok h false p rec = by_find i e s others g a ok (leb-false _ _ p) h (find e s.to) refl rec

  told : (i : ℕ) (e : Store) (steps : List (Checked Step)) → Grown S1 S2 d all last i e → Ahead i all steps → ((s : Step) → In (good s) steps → InRange S1 S2 s.to) → e.used.trs + length steps ≡ last
      → weigh_from d all i e.used.states steps ≡ and_then (store_steps e steps) (λ x. good tt)
  unfolding weigh_from store_steps_with store_step_with
  told i e [] g a ok h = refl
  told i e (refused n ∷ others) g a ok h = refl
  told i e (good s ∷ others) g a ok h =
      rw (g.trs, g.tr_room_lem, g.state_room_lem, g.lacks s.to)
      (by_tr i e s others g a (ok s (here refl)) h (leb (tr_room e.memory) e.used.trs) refl
      (λ f k l. rw (add-one i) (told (suc i) f others k (ahead_next i all s others a) (λ r j. ok r (there j)) l)))

-- On every store in form, with a state, and for steps whose targets are in range: the weighing's answer is that of storing.
pub weigh_exact : {S1 S2 : ℕ} (d : Store) (steps : List (Checked Step)) → Form S1 S2 d d.used.trs → ((s : Step) → In (good s) steps → InRange S1 S2 s.to) → 0 < d.used.states
    → weigh_of d steps ≡ and_then (store_steps d steps) (λ e. good tt)
unfolding weigh_of is_new reached_within
weigh_exact {S1} {S2} d steps form ok any =
    let last = d.used.trs + length steps in
    let g : Grown S1 S2 d steps last 0 d = record {
      form = longer d last form (omega arith);
      state_room_lem = refl;
      tr_room_lem = refl;
      trs = omega arith;
      any = any;
      lacks = λ t. and-true (missing (find d t));
    } in
    told d steps last 0 d steps g refl ok refl
