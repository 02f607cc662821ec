-- A list is its eights, one after another, and the rest; the rest is four and the last, or in turn.
use Rattle.std.specs.Prelude.{◌≡◌, List, [], ℕ, zero, suc, ◌+◌, ◌*◌, ◌/◌, ◌||◌, eqb, take, drop, length, ◌<◌, Bool, slice_index_or}
use Rattle.std.specs.List.{list_any}
use Rattle.std.specs.Simd.{first_chunks}
use native.Mathlib.Omega.{arith}
use native.Mathlib.Numerals.{add-one}
use mathlib.Core.Path.{refl, sym, ap, ◌∙◌}
use Rattle.std.proofs.Math.Bool.{or_assoc}
use Rattle.std.proofs.Math.Seq.{drop-cons}
use Rattle.std.proofs.Math.ListN.{drop_of_length-le}
use Rattle.std.proofs.lemmas.List.{drop-drop}
use Rattle.words.specs.Sigmas.{has}
use Rattle.fst.proofs.ListedIn.{any_has, has_split, split_by}
use Rattle.fst.proofs.ignored.at_once.Goals as goal

-- in the first k eights, or past them
by_eights : (x k : ℕ) (l : List ℕ) → list_any (has x) (first_chunks 8 k l) || has x (drop (k * 8) l) ≡ has x l
by_eights x zero l = refl
by_eights x (suc k) l =
    let eights-on : suc k * 8 ≡ 8 + k * 8 = omega arith in
    rw (eights-on, sym (drop-drop (k * 8) 8 l))
    (or_assoc (has x (take 8 l)) (list_any (has x) (first_chunks 8 k (drop 8 l))) (has x (drop (k * 8) (drop 8 l)))
    ∙ ap (λ b. has x (take 8 l) || b) (by_eights x k (drop 8 l))
    ∙ sym (has_split x 8 l))

-- the eights that are left, by what `contains` answered of the next
next_eight : (x i : ℕ) (eights : List (List ℕ)) (answer : Bool) → i < length eights → answer ≡ list_any (λ y. eqb y x) (slice_index_or eights i [])
    → list_any (has x) (drop i eights) ≡ answer || list_any (has x) (drop (i + 1) eights)
next_eight x i eights answer h e =
    rw (add-one) (ap (list_any (has x)) (drop-cons eights i [] h) ∙ ap (λ b. b || list_any (has x) (drop (suc i) eights)) (sym (any_has x (slice_index_or eights i [])) ∙ sym e))

pub loop-eight-init : goal.loop-eight-init
loop-eight-init c = rw (c.as_chunks.ensures.front, c.as_chunks.ensures.back) (by_eights c.args.label.0 (length c.args.list.now / 8) c.args.list.now)

pub returns-then-contains : goal.returns-then-contains
returns-then-contains c = rw (next_eight _ _ _ _ c.loop-eight-test.true c.contains.ensures.value, c.if-contains.true) at c.loop-eight.invariant

pub loop-eight-preserved : goal.loop-eight-preserved
loop-eight-preserved c = rw (next_eight _ _ _ _ c.loop-eight-test.true c.contains.ensures.value, c.if-contains.false) at c.loop-eight.invariant

pub returns-then-contains-2 : goal.returns-then-contains-2
returns-then-contains-2 c =
    c.if-contains-2.true
    ∙ (rw (c.if-contains-2.true) at (split_by c.args.label.0 4 c.as_chunks.result.1.now _ _ _ c.in-Some.ensures.cases.0 c.in-Some.ensures.cases.1 (c.contains-in-Some.ensures.value ∙ any_has c.args.label.0 c.in-Some.four.now)))
    ∙ (rw (drop_of_length-le c.as_chunks.result.0.now c.loop-eight-test.false) at c.loop-eight.invariant)

pub returns-else-contains-2 : goal.returns-else-contains-2
returns-else-contains-2 c =
    c.in_turn.ensures
    ∙ (rw (c.if-contains-2.false) at (split_by c.args.label.0 4 c.as_chunks.result.1.now _ _ _ c.in-Some.ensures.cases.0 c.in-Some.ensures.cases.1 (c.contains-in-Some.ensures.value ∙ any_has c.args.label.0 c.in-Some.four.now)))
    ∙ (rw (drop_of_length-le c.as_chunks.result.0.now c.loop-eight-test.false) at c.loop-eight.invariant)
