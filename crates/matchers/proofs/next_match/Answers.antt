-- The loop, or else by the phase.
use Rattle.matchers.specs.Cursors.{held_words}
use Rattle.matchers.proofs.Turns.{loop_turn, loop_place, in_own, in_sigmas, answers_all}
use Rattle.matchers.proofs.next_match.Goals as goal

pub returns-then-cursor : goal.returns-then-cursor
returns-then-cursor c =
    let a = c.args in
    let words = held_words a.cursor a.ignored.now a.m.now in
    let due = c.if-cursor.true in
    rw c.moved.ensures (record { result_value = loop_turn words a.cursor due; place = loop_place words a.cursor due })

pub returns-in-Own : goal.returns-in-Own
returns-in-Own c =
    let a = c.args in
    let words = held_words a.cursor a.ignored.now a.m.now in
    let h = answers_all words a.cursor _ c.own_next.result (in_own words a.cursor c.if-cursor.false c.in-Own.is) (c.own_next.ensures.result_value, c.own_next.ensures.place) in
    record { result_value = h.0; place = h.1 }

pub returns-in-Sigmas : goal.returns-in-Sigmas
returns-in-Sigmas c =
    let a = c.args in
    let words = held_words a.cursor a.ignored.now a.m.now in
    let h = answers_all words a.cursor _ c.sigma_next.result (in_sigmas words a.cursor c.if-cursor.false c.in-Sigmas.is) (c.sigma_next.ensures.result_value, c.sigma_next.ensures.place) in
    record { result_value = h.0; place = h.1 }
