-- A larger label ends the search; the label is found; a smaller one is passed over.
use mathlib.Core.Path.{sym, ◌∙◌, ap}
use native.Mathlib.Omega.{arith}
use lib.ListN.{length}
use Rattle.words.proofs.ListLaws.{link, list_turn}
use Rattle.matchers.specs.Cursors.{head0}
use Rattle.matchers.proofs.Seeks.{with_end}
use Rattle.sorted_lists.proofs.Along.{rising_next, label_word, with_here, with_skip, with_past}
use Rattle.sorted_lists.proofs.scan.Goals as goal

pub returns-then-x-y : goal.returns-then-x-y
returns-then-x-y c =
    let label = label_word _ _ _ _ _ c.word_on-k.ensures c.word_at-y.ensures in
    let i = c.loop-u.invariant in
    sym (ap head0 (with_past _ _ _ 0 _ c.loop-u-test.true i.0 i.1 (rw label at c.if-x-y.true))) ∙ i.2

pub returns-then-y-x : goal.returns-then-y-x
returns-then-y-x c =
    let label = label_word _ _ _ _ _ c.word_on-k.ensures c.word_at-y.ensures in
    let i = c.loop-u.invariant in
    sym (ap head0 (with_here _ _ _ _ c.loop-u-test.true i.0 (sym label ∙ c.if-y-x.true))) ∙ i.2

pub loop-u-smaller : goal.loop-u-smaller
loop-u-smaller c = let e = ap length (list_turn _ _ c.loop-u-test.true c.loop-u.invariant.0) in rw c.next_at-u.ensures (omega (arith, e))

pub loop-u-preserved : goal.loop-u-preserved
loop-u-preserved c =
    let label = label_word _ _ _ _ _ c.word_on-k.ensures c.word_at-y.ensures in
    let i = c.loop-u.invariant in
    let n = c.loop-u-test.true in
    rw c.next_at-u.ensures (
      (link _ _).inside,
      rising_next _ _ _ _ n i.0 i.1,
      sym (ap head0 (with_skip _ _ _ _ n i.0 (λ e. c.if-y-x.false (label ∙ e)))) ∙ i.2,
    )

pub returns : goal.returns
returns c = sym (ap head0 (with_end _ _ _ _ c.loop-u-test.false)) ∙ c.loop-u.invariant.2
