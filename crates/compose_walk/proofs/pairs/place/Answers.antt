-- 0 says that there was room for a new state.
use mathlib.Core.List.{[]}
use native.Mathlib.Omega.{arith}
use Rattle.calls.specs.Store.{state_size}
use Rattle.calls.proofs.RecordLaws.{room_words}
use Rattle.compose_state_tuple.specs.Meaning.{tuple_means}
use Rattle.state_table.proofs.Placed.{placed_lacks}
use Rattle.compose_walk.proofs.pairs.place.Goals as goal

pub overflow_add-result : goal.overflow_add-result
overflow_add-result c =
    let a = c.args in
    let f = c.find_or_add-link in
    let r = (c.requires [] 0).1 (placed_lacks a.heads.now a.states.now f.new.heads f.new.states [] a.used 0 (tuple_means a.tuple) (rw c.if-link-eq0.true at (f.ensures [] 0))) in
    omega (arith, r, (room_words state_size a.states.now _ r).0)
