-- The machine that is looked up is sorted: its side was chosen by a mark, which is true, or by the fact.
use mathlib.Core.Path.{◌≡◌, refl, sym, subst}
use mathlib.Core.Bool.{Bool, true, false, not, ◌&&◌, ◌||◌, cond}
use mathlib.Core.List.{List}
use Prim.Native.Nat.{ℕ}
use lib.Dec.{eqb, leb}
use borrow.Author.Tests.{eqb-true}
use Rattle.words.specs.Labels.{eps_label, good}
use Rattle.words.specs.Matches.{MatchType, inputs, outputs}
use Rattle.words.specs.Machines.{side_mark, machine_of, sorted, side_mark_ok, well_formed}
use Rattle.words.specs.Sigmas.{Operand, is_set}
use Rattle.words.specs.Sides.{Side, side_by, in_order, side_of}
use Rattle.words.specs.Steps.{Triple}
use Rattle.words.proofs.CheckedLaws.{good_is, good≢refused, past_check}
use Rattle.words.proofs.FormLaws.{form}
use Rattle.compose_bounds.specs.Serving.{plain_direction}
use Rattle.compose_fst_op.specs.Composing.{composing_words}
use Rattle.compose_fst_op.specs.declared.ComposeFstOpOptions.{ComposeFstOpOptions}
use Rattle.compose_moves.specs.Walks.{looked_words}
use Rattle.list_facts.specs.declared.ListFacts.{ListFacts}
use Rattle.match_type.specs.Chosen.{side_means}
use Rattle.compose_plan.specs.Planning.{Present}

-- "1 sorted": a mark that says so is true
mark_sorted : (on : MatchType) (m : List ℕ) → well_formed m ≡ true → eqb (side_mark on m) 1 ≡ true → sorted on (machine_of m) ≡ true
mark_sorted on m w e = subst (λ (n : ℕ). side_mark_ok n (sorted on (machine_of m)) ≡ true) (eqb-true (side_mark on m) 1 e) ((form m w).mark on)

-- what holds of a direction where its mark or its fact does holds of the direction of the chosen side
module _ (P : MatchType → Type 0) (side : Side) (length1 length2 : ℕ) where
  chosen : (mark1 mark2 fact1 fact2 : Bool) → (mark1 ≡ true → P outputs) → (mark2 ≡ true → P inputs) → (fact1 ≡ true → P outputs) → (fact2 ≡ true → P inputs)
      → side_by mark1 mark2 fact1 fact2 ≡ good side → P (plain_direction side length1 length2)
  chosen true true x y m1 m2 f1 f2 e = rw (← good_is e) (go (leb length1 length2))
    where
      go : (b : Bool) → P (cond b inputs outputs)
      go true = m2 refl
      go false = m1 refl
  chosen true false x y m1 m2 f1 f2 e = rw (← good_is e) (m1 refl)
  chosen false true x y m1 m2 f1 f2 e = rw (← good_is e) (m2 refl)
  chosen false false true y m1 m2 f1 f2 e = rw (← good_is e) (f1 refl)
  chosen false false false true m1 m2 f1 f2 e = rw (← good_is e) (f2 refl)
  chosen false false false false m1 m2 f1 f2 e = absurd (good≢refused (sym e))

-- past 4 to 6, the side is chosen by the marks and the facts
past_sigma : (A B : Operand) (side : Side) → side_of A B ≡ good side → side_by (eqb A.mark 1) (eqb B.mark 1) (in_order A) (in_order B) ≡ good side
unfolding side_of
past_sigma A B side e =
    let four = past_check (eqb A.sigma.label eps_label || eqb B.sigma.label eps_label) 4 _ side e in
    let five = past_check (is_set A.sigma && not (in_order A)) 5 _ side four.1 in
    (past_check (is_set B.sigma && not (in_order B)) 6 _ side five.1).1

-- the machine that is looked up where no state has a sigma transition
pub looked_sorted : {o : ComposeFstOpOptions} {m1 m2 a1 a2 : List ℕ} {t : Triple} {f1 f2 : ListFacts} → Present o m1 m2 a1 a2 t f1 f2
    → let d = plain_direction (side_means o.side) f1.len f2.len in
    sorted d (machine_of (looked_words d m1 m2)) ≡ true
looked_sorted {o} {m1} {m2} {a1} {a2} {f1 = f1} {f2 = f2} p =
    chosen (λ d. sorted d (machine_of (looked_words d m1 m2)) ≡ true) (side_means o.side) f1.len f2.len (eqb (side_mark outputs m1) 1) (eqb (side_mark inputs m2) 1)
    (sorted outputs (machine_of m1)) (sorted inputs (machine_of m2)) (mark_sorted outputs m1 p.formed1) (mark_sorted inputs m2 p.formed2) (λ e. e) (λ e. e)
    (past_sigma (composing_words o m1 m2 a1 a2).operand1 (composing_words o m1 m2 a1 a2).operand2 (side_means o.side) p.rule)
