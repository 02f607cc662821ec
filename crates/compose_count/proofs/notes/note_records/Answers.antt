-- A record with the label is noted; at the first other label nothing is left.
use mathlib.Core.Path.{◌≡◌, sym, ◌∙◌, ap}
use native.Mathlib.Omega.{arith}
use lib.ListN.{length}
use Rattle.words.specs.Matches.{label_on}
use Rattle.words.specs.Machines.{machine_of}
use Rattle.words.proofs.ListLaws.{list_turn}
use Rattle.matchers.proofs.Seeks.{with_end}
use Rattle.compose_state_tuple.specs.Meaning.{tuple_means}
use Rattle.sorted_lists.proofs.Along.{label_word, with_stops}
use Rattle.compose_walk.specs.Plans.{side_by}
use Rattle.compose_count.specs.Notes.{notes_means}
use Rattle.compose_count.proofs.NoteLaws.{stand_end, stand_turn}
use Rattle.compose_count.proofs.notes.note_records.Goals as goal
use Rattle.compose_count.proofs.notes.note_records.Goals.{After-word_at}

-- the word that is read is the label
label : (c : After-word_at) → let a = c.args in c.word_at.result ≡ label_on (side_by a.c.plan) (machine_of a.mm.now) c.loop-u.u
label c = let a = c.args in label_word (side_by a.c.plan) a.mm.now _ _ _ c.word_on-k.ensures c.word_at.ensures

pub loop-u-smaller : goal.loop-u-smaller
loop-u-smaller c = let e = ap length (list_turn _ _ c.loop-u-test.true c.loop-u.invariant.inside) in rw c.next_at-u.ensures (omega (arith, e))

pub loop-u-preserved : goal.loop-u-preserved
loop-u-preserved c =
    let w = c.note-noted in
    rw c.next_at-u.ensures
    (stand_turn c.loop-u.invariant c.loop-u-test.true (sym (label (goal.at.loop-u-preserved c).After-word_at) ∙ c.if-word_at-x.true) c.tr_at-found.ensures
    (notes_means w.new.chains w.new.records w.result) (tuple_means c.target-tuple.result) c.target-tuple.ensures w.ensures)

pub returns-else-word_at-x : goal.returns-else-word_at-x
returns-else-word_at-x c =
    let i = c.loop-u.invariant in
    stand_end i (with_stops _ _ _ _ c.loop-u-test.true i.inside i.rises (λ e. c.if-word_at-x.false (label (goal.at.returns-else-word_at-x c).After-word_at ∙ e)))

pub returns-after-loop-u : goal.returns-after-loop-u
returns-after-loop-u c = stand_end c.loop-u.invariant (with_end _ _ _ _ c.loop-u-test.false)
