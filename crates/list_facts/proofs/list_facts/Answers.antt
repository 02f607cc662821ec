-- A turn takes one record off the list; no list is longer than the limit, so that all numbers stay small.
use Prim.Native.Nat.{◌+◌, ◌≤◌}
use mathlib.Core.Path.{◌≡◌, ap}
use mathlib.Core.List.{◌∷◌}
use native.Mathlib.Omega.{arith}
use borrow.Author.Rules.{rules}
use lib.Dec.{eqb}
use lib.ListN.{length}
use Rattle.words.specs.Labels.{eps_label}
use Rattle.words.specs.Weights.{is_zero}
use Rattle.words.specs.Machines.{next_of, list_from, list_of}
use Rattle.words.proofs.ListLaws.{link, first_inside, list_end_lem, list_turn, list_length}
use Rattle.words.proofs.FormLaws.{form}
use Rattle.list_facts.proofs.Pass.{eps_within_lem, begun, noted}
use Rattle.list_facts.proofs.Told.{told}
use Rattle.list_facts.proofs.list_facts.Goals.{In-loop-t}
use Rattle.list_facts.proofs.list_facts.Goals as goal

-- in a turn, the list is this record and the list from its link
turn : (c : In-loop-t) →
    let m = c.args.m.now in
    let t = c.loop-t.t in list_from m t ≡ t ∷ list_from m (next_of m t)
turn c = list_turn _ _ c.loop-t-test.true c.loop-t.invariant.0

within : (c : In-loop-t) → let l = c.loop-t in (l.t ≤ 16777215) × (l.len + 1 ≤ 16777215)
within c =
    let m = c.args.m.now in
    let h = (form m c.requires.0).trs in
    let l = c.loop-t.invariant in
    (omega (arith, h, l.0), omega (arith, h, l.1.lens, ap length (turn c), list_length m c.first_at-t.result))

pub loop-t-init : goal.loop-t-init
loop-t-init c = (rw c.first_at-t.ensures (first_inside _ _), begun _ _ _ _ _)

pub overflow_add-len : goal.overflow_add-len
overflow_add-len c = search (rules, within (goal.at.overflow_add-len c).In-loop-t)

pub overflow_add-eps : goal.overflow_add-eps
overflow_add-eps c = search (rules, within (goal.at.overflow_add-eps c).In-loop-t, eps_within_lem (eqb c.word_at-x.result eps_label) _ _ c.loop-t.invariant.1.eps_within, c.eps_of-eps.ensures)

pub in_a_row-same-requires : goal.in_a_row-same-requires
in_a_row-same-requires c = omega (arith, within (goal.at.in_a_row-same-requires c).In-loop-t, c.loop-t.invariant.1.same_within)

pub goes_on-straight-requires : goal.goes_on-straight-requires
goes_on-straight-requires c = omega (arith, within (goal.at.goes_on-straight-requires c).In-loop-t)

pub loop-t-smaller : goal.loop-t-smaller
loop-t-smaller c = rw c.next_at-next.ensures (omega (arith, ap length (turn (goal.at.loop-t-smaller c).In-loop-t)))

pub loop-t-preserved : goal.loop-t-preserved
unfolding is_zero
loop-t-preserved c =
    rw (c.goes_on-straight.ensures, c.heavier-most.ensures, c.word_at.ensures, c.max-run.ensures, c.in_a_row-same.ensures, c.eps_of-eps.ensures, c.word_at-x.ensures, c.next_at-next.ensures, c.zero-none.ensures)
    ((link _ _).inside, noted _ _ _ _ _ _ _ _ _ _ _ _ _ _ (rw (turn (goal.at.loop-t-preserved c).In-loop-t) at c.loop-t.invariant.1))

pub returns : goal.returns
unfolding list_of
returns c =
    let l = c.loop-t.invariant.1 in
    told _ _ _ _ _ _ _ (rw (list_end_lem c.args.m.now _ c.loop-t-test.false, c.word_on-k.ensures, c.first_at-t.ensures) at l)
