-- A record with the label is stored; at the first other label nothing is left.
use mathlib.Core.Path.{◌≡◌, sym, ◌∙◌, ap}
use native.Mathlib.Omega.{arith}
use lib.ListN.{length}
use Rattle.words.specs.Matches.{label_on}
use Rattle.words.specs.Machines.{machine_of}
use Rattle.words.proofs.ListLaws.{list_turn}
use Rattle.fst.specs.Meaning.{on_of}
use Rattle.matchers.proofs.Seeks.{with_end}
use Rattle.sorted_lists.proofs.Along.{label_word, with_stops}
use Rattle.compose_walk.proofs.Turns.{at_end, at_product, at_room, at_turn}
use Rattle.compose_walk.proofs.with_label.Goals as goal
use Rattle.compose_walk.proofs.with_label.Goals.{After-word_at}

-- the word that is read is the label
label : (c : After-word_at) → let a = c.args in c.word_at.result ≡ label_on (on_of a.on) (machine_of a.mm.now) c.loop-u.u
label c = let a = c.args in label_word (on_of a.on) a.mm.now _ _ _ c.word_on-k.ensures c.word_at.ensures

pub joined-requires : goal.joined-requires
joined-requires c =
    at_product c.loop-u.invariant c.loop-u-test.true (sym (label (goal.at.joined-requires c).After-word_at) ∙ c.if-word_at-x.true) c.tr_at-found.ensures

pub push-grown-requires : goal.push-grown-requires
push-grown-requires c =
    at_room c.loop-u.invariant c.loop-u-test.true (sym (label (goal.at.push-grown-requires c).After-word_at) ∙ c.if-word_at-x.true) c.tr_at-found.ensures c.joined.ensures

pub loop-u-smaller : goal.loop-u-smaller
loop-u-smaller c = let e = ap length (list_turn _ _ c.loop-u-test.true c.loop-u.invariant.inside) in rw c.next_at-u.ensures (omega (arith, e))

pub loop-u-preserved : goal.loop-u-preserved
loop-u-preserved c =
    rw c.next_at-u.ensures
    (at_turn c.loop-u.invariant c.loop-u-test.true (sym (label (goal.at.loop-u-preserved c).After-word_at) ∙ c.if-word_at-x.true) c.tr_at-found.ensures c.joined.ensures c.push-grown.ensures)

pub returns-else-word_at-x : goal.returns-else-word_at-x
returns-else-word_at-x c =
    let i = c.loop-u.invariant in
    at_end i (with_stops _ _ _ _ c.loop-u-test.true i.inside i.rises (λ e. c.if-word_at-x.false (label (goal.at.returns-else-word_at-x c).After-word_at ∙ e)))

pub returns-after-loop-u : goal.returns-after-loop-u
returns-after-loop-u c = at_end c.loop-u.invariant (with_end _ _ _ _ c.loop-u-test.false)
