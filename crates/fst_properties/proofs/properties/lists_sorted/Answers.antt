-- A turn of either loop takes one record, or one list, off what is left.
use Prim.Native.Nat.{◌≤◌, ◌<◌}
use mathlib.Core.Path.{◌≡◌, refl, sym, ap, ◌∙◌}
use mathlib.Core.Bool.{true}
use mathlib.Core.List.{◌∷◌}
use native.Mathlib.Nat.{sub-zero}
use native.Mathlib.Omega.{arith}
use borrow.Author.Rules.{rules}
use borrow.Author.Tests.{le-leb, lt-leb}
use lib.ListN.{length}
use Rattle.words.specs.Machines.{next_of, list_from, list_of}
use Rattle.words.proofs.ListLaws.{link, first_inside, list_turn}
use Rattle.words.proofs.ReplacedLaws.{read_length, read_states, read_first, read_next}
use Rattle.fst.specs.Meaning.{on_of, read_as, ignored_under}
use Rattle.lists.proofs.Runs.{run_turn, run_end, run_cut}
use Rattle.fst_properties.proofs.Bits.{none_seen}
use Rattle.fst_properties.proofs.Falls.{list_sorted, sorted_lists, far_list}
use Rattle.fst_properties.proofs.Walked.{from_on_lem, from_end, from_turn, begins, meets, goes_on_lem}
use Rattle.fst_properties.proofs.properties.lists_sorted.Goals.{else-list-test, then-list-test+else-lt+then-is_seen}
use Rattle.fst_properties.proofs.properties.lists_sorted.Goals as goal

-- where the inner loop is left, nothing falls in what is left of the list: it is empty, or an earlier walk saw it
ended : (c : goal.Left-list) →
    let a = c.args in
    let l = c.list in from_on_lem (on_of a.m.on) (read_as a.m.on a.m.sigmas a.m.ignored.now a.m.words.now) l.low.0 l.t ≡ true
ended c =
    let l = c.list.invariant in
    elim c.list-test.branch [
      | else-list-test w ↦ from_end _ _ _ _ w.list-test.false
      | then-list-test+else-lt+then-is_seen w ↦ meets _ _ _ _ _ _ l.3 w.list-test.true l.2 (rw (← w.inner_label-label.ensures) (search rules)) (sym w.is_seen.ensures ∙ w.if-is_seen.true)
    ]

pub states-init : goal.states-init
states-init c =
    let a = c.args in
    let g = ignored_under a.m.sigmas a.m.ignored.now in (
      refl,
      λ u h. absurd (none_seen _ 2048 u h),
      rw (sub-zero, c.least-n.ensures, c.num_states.ensures, ← read_states (on_of a.m.on) g a.m.words.now, ← read_length (on_of a.m.on) g a.m.words.now, sorted_lists)
          (run_cut (list_sorted _ _) 0 _ _ (far_list _ _)),
    )

pub list-init : goal.list-init
unfolding list_sorted list_of from_on_lem
list-init c =
    let l = c.states.invariant in
    let h = c.states-test.true in
    let a = c.args in
    rw (c.first_tr-t.ensures, ← read_first (on_of a.m.on) (ignored_under a.m.sigmas a.m.ignored.now) a.m.words.now c.states.s)
    (l.0, h, first_inside _ _, begins _ _ _ _ _ _ l.1, sym (run_turn (list_sorted (on_of a.m.on) (read_as a.m.on a.m.sigmas a.m.ignored.now a.m.words.now)) _ _ _ h) ∙ l.2)

pub list-smaller : goal.list-smaller
list-smaller c =
    let a = c.args in
    let turn : list_from (read_as a.m.on a.m.sigmas a.m.ignored.now a.m.words.now) c.list.t ≡ c.list.t ∷ list_from (read_as a.m.on a.m.sigmas a.m.ignored.now a.m.words.now) (next_of (read_as a.m.on a.m.sigmas a.m.ignored.now a.m.words.now) c.list.t) = list_turn _ _ c.list-test.true c.list.invariant.2 in
    rw (c.next_tr-t.ensures, ← read_next (on_of a.m.on) (ignored_under a.m.sigmas a.m.ignored.now) a.m.words.now c.list.t) (omega (arith, ap length turn))

pub list-preserved : goal.list-preserved
list-preserved c =
    let l = c.list.invariant in
    let e = c.list-test.true in
    let a = c.args in
    let low : c.list.low.0 ≤ c.inner_label-label.result.0 = search rules in
    let g = rw c.inner_label-label.ensures at low in
    rw (c.next_tr-t.ensures, ← read_next (on_of a.m.on) (ignored_under a.m.sigmas a.m.ignored.now) a.m.words.now c.list.t, c.inner_label-label.ensures, c.see.ensures)
    (l.0, l.1, (link _ _).inside, goes_on_lem _ _ _ _ _ _ l.3 e l.2 g, rw (from_turn _ _ _ _ e l.2, le-leb _ _ g) at l.4)

pub states-preserved : goal.states-preserved
states-preserved c = let l = c.list.invariant in (l.0, l.3.then (ended c), rw (ended c) at l.4)

pub returns-after-states : goal.returns-after-states
returns-after-states c = let l = c.states.invariant in l.0 ∙ sym (run_end _ _ _ _ c.states-test.false) ∙ l.2

pub returns-then-lt : goal.returns-then-lt
returns-then-lt c =
    let l = c.list.invariant in
    let a = c.args in
    let below : c.inner_label-label.result.0 < c.list.low.0 = search rules in
    rw (from_turn _ _ _ _ c.list-test.true l.2, lt-leb _ _ (rw c.inner_label-label.ensures at below)) at l.4
