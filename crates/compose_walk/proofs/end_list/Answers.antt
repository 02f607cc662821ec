-- The last word of the last record.
use Rattle.compose_walk.proofs.Stores.{end_some}
use Rattle.compose_walk.proofs.end_list.Goals as goal

pub returns-then-after-before : goal.returns-then-after-before
returns-then-after-before c =
    let a = c.args in
    λ heads states n. end_some heads states a.trs.now c.store.new.s a.before n a.after c.if-after-before.true c.store.ensures
