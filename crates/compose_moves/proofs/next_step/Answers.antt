-- By the direction, which decides the machine that is walked.
use Rattle.compose_moves.proofs.Turns.{answer_input, answer_output}
use Rattle.compose_moves.proofs.next_step.Goals as goal

pub returns-in-MatchInput : goal.returns-in-MatchInput
returns-in-MatchInput c =
    let a = c.args in
    let along = rw c.walk_of-walk.ensures at c.ordered_expand-along.ensures.result_value in
    let place = rw c.walk_of-walk.ensures at c.ordered_expand-along.ensures.place in
    let answered = answer_input a.options a.m1.now a.m2.now a.a1.now a.a2.now a.ignored.now a.cursor c.ordered_expand-along.result c.in-MatchInput.is (along, place) in
    record { result_value = rw c.resume.ensures answered.0; place = rw c.resume.ensures answered.1 }

pub returns-in-MatchOutput : goal.returns-in-MatchOutput
returns-in-MatchOutput c =
    let a = c.args in
    let along = rw c.walk_of-walk-in-MatchOutput.ensures at c.ordered_expand-along-in-MatchOutput.ensures.result_value in
    let place = rw c.walk_of-walk-in-MatchOutput.ensures at c.ordered_expand-along-in-MatchOutput.ensures.place in
    let answered = answer_output a.options a.m1.now a.m2.now a.a1.now a.a2.now a.ignored.now a.cursor c.ordered_expand-along-in-MatchOutput.result c.in-MatchOutput.is (along, place) in
    record { result_value = rw c.resume-in-MatchOutput.ensures answered.0; place = rw c.resume-in-MatchOutput.ensures answered.1 }
