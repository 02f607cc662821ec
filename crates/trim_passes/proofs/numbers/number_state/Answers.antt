use Rattle.trim_passes.proofs.NumberLaws.{alive_turn, other_turn}
use Rattle.trim_passes.proofs.numbers.number_state.Goals as goal

pub returns-then-high_of-eq-ALIVE : goal.returns-then-high_of-eq-ALIVE
returns-then-high_of-eq-ALIVE c =
    let turn = alive_turn c.args.work.now _ c.args.n _ (rw c.high_of.ensures.0 at c.if-high_of-eq-ALIVE.true) c.store64.ensures in
    record { value = turn.0; word = turn.1 }

pub returns : goal.returns
returns c =
    let turn = other_turn c.args.work.now _ c.args.n _ (rw c.high_of.ensures.0 at c.if-high_of-eq-ALIVE.false) c.store64-2.ensures in
    record { value = turn.0; word = turn.1 }
