-- The store read as a machine, where form holds: targets are states, lists hold used records, and no final weight is zero.
use mathlib.Core.Path.{◌≡◌, refl, sym, ◌∙◌, ap}
use mathlib.Core.Bool.{Bool, true, false, ◌&&◌, cond, true≢false, false≢true}
use mathlib.Core.List.{Memᴰ as In}
use mathlib.Core.Logic.{◌≢◌}
use Rattle.std.specs.Prelude.{Option, None, Some}
use Rattle.std.proofs.lemmas.Option.{none-some, same_Some}
use Prim.Native.Nat.{ℕ, zero, suc, ◌-◌, ◌≤◌, ◌<◌}
use native.Mathlib.Omega.{arith}
use lib.ListN.{length}
use Rattle.lists.specs.Lists.{Distinct, linked}
use Rattle.lists.proofs.Members.{of_interval}
use Rattle.lists.proofs.Links.{linked_zero}
use Rattle.lists.proofs.Once.{distinct_interval}
use Rattle.lists.proofs.Rising.{Rises, risen_within}
use Rattle.papers.specs.Weight.{semiring}
use Rattle.words.specs.Labels.{good}
use Rattle.words.specs.Weights.{Kind, is_zero, times}
use Rattle.words.specs.Steps.{Composition, unless_zero, final_at}
use Rattle.words.specs.AsPapers.{exact}
use Rattle.words.proofs.PapersWeights.{exact_zero}
use Rattle.calls.specs.Store.{Store, first_at, tr_next_at, triple_at, part_at, part_with}
use Rattle.calls.specs.Forms.{form_ok}
use Rattle.calls.proofs.StoreForms.{form_state, form_tr}
use Rattle.graphs.specs.Walks.{Bounded}
use Rattle.graphs.specs.StoreMachine.{first_state, answered, weight_in, store_machine}

-- form makes the links of transition records rise
pub store_rises : (d : Store) (S1 S2 : ℕ) → form_ok S1 S2 d ≡ true → Rises (tr_next_at d.memory.trs) d.used.trs
store_rises d S1 S2 ok i l = (form_tr S1 S2 d ok i l).next

-- no record stands in a list twice
pub store_distinct : (c : Composition) (d : Store) (n : ℕ) → Distinct ((store_machine c d).list n)
store_distinct c d n = distinct_interval (part_at d n).first (part_at d n).count

-- the lists of states hold used records
pub store_records : (c : Composition) (d : Store) (S1 S2 : ℕ) → form_ok S1 S2 d ≡ true → (n r : ℕ) → n < d.used.states → In r ((store_machine c d).list n) → (0 < r) × (r ≤ d.used.trs)
unfolding part_with
store_records c d S1 S2 ok n r l i = go (first_at d.memory.states n) refl
  where
    k : ℕ
    k = length (linked (tr_next_at d.memory.trs) d.used.trs (first_at d.memory.states n))

    go : (f : ℕ) → first_at d.memory.states n ≡ f → (0 < r) × (r ≤ d.used.trs)
    go zero e =
        let z : k ≡ 0 = ap length (linked_zero (tr_next_at d.memory.trs) d.used.trs (first_at d.memory.states n) e) in
        let b = of_interval (first_at d.memory.states n) k i in
        absurd (omega (arith, z, b.0, b.1))
    go (suc f) e =
        let h = risen_within (tr_next_at d.memory.trs) d.used.trs d.used.trs (first_at d.memory.states n) (store_rises d S1 S2 ok) (form_state S1 S2 d ok n l).first in
        let b = of_interval (first_at d.memory.states n) k i in
        (omega (arith, e, b.0), omega (arith, e, h, b.1))

-- start and targets are used states
pub store_bounded : (c : Composition) (d : Store) (S1 S2 : ℕ) → form_ok S1 S2 d ≡ true → Bounded (store_machine c d)
store_bounded c d S1 S2 ok = record {
  start_below = λ a e. start d.used.states a e;
  target_below = λ a r l i. let z = store_records c d S1 S2 ok a r l i in (form_tr S1 S2 d ok (r - 1) (omega (arith, z.0, z.1))).target;
}
  where
    start : (u a : ℕ) → first_state u ≡ Some a → a < u
    start zero a e = absurd (none-some a e)
    start (suc u) a e = let z : 0 ≡ a = same_Some 0 a e in omega (arith, z)

-- a final state's weight is not the kind's zero
answered_weight_lem : (k : Kind) (o : Option ℕ) → answered (unless_zero k o) ≡ true → is_zero k (weight_in (unless_zero k o)) ≡ false
answered_weight_lem k None e = absurd (false≢true e)
answered_weight_lem k (Some w) e = go (is_zero k w) refl e
  where
    go : (b : Bool) → is_zero k w ≡ b → answered (good (cond b None (Some w))) ≡ true → is_zero k (weight_in (good (cond b None (Some w)))) ≡ false
    go true z e = absurd (false≢true e)
    go false z e = z

pub store_final : (c : Composition) (d : Store) (n : ℕ) → (store_machine c d).is_final n ≡ true → is_zero c.kind ((store_machine c d).final_weight n) ≡ false
unfolding final_at
store_final c d n e = go (c.operand1.machine.is_final (triple_at d.memory.states n).s1 && c.operand2.machine.is_final (triple_at d.memory.states n).s2) e
  where
    o : Option ℕ
    o = times c.kind (c.operand1.machine.final_weight (triple_at d.memory.states n).s1) (c.operand2.machine.final_weight (triple_at d.memory.states n).s2)

    go : (b : Bool) → answered (cond b (unless_zero c.kind o) (good None)) ≡ true → is_zero c.kind (weight_in (cond b (unless_zero c.kind o) (good None))) ≡ false
    go true h = answered_weight_lem c.kind o h
    go false h = absurd (false≢true h)

-- the same of exact weights
pub store_final_exact : (c : Composition) (d : Store) (n : ℕ) → (store_machine c d).is_final n ≡ true → exact c.kind ((store_machine c d).final_weight n) ≢ (semiring c.kind).zero
store_final_exact c d n e z = true≢false (sym ((exact_zero c.kind ((store_machine c d).final_weight n)).1 z) ∙ store_final c d n e)
