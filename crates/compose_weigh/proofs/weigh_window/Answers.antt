-- Those that the set holds, without those that earlier steps went to, are new.
use mathlib.Core.Path.{◌≡◌}
use Prim.Native.Nat.{◌+◌}
use native.Mathlib.Omega.{arith}
use lib.ListN.{replicate}
use Rattle.calls.specs.Store.{room_of, state_size, find}
use Rattle.store_records.specs.Meaning.{stored}
use Rattle.triple_set.proofs.SetLaws.{headed_none}
use Rattle.compose_weigh.specs.Weigh.{missing, is_new}
use Rattle.compose_weigh.specs.Windows.{new_within}
use Rattle.compose_weigh.specs.Meaning.{steps_from}
use Rattle.compose_weigh.proofs.SetTurns.{set_room_lem}
use Rattle.compose_weigh.proofs.weigh_window.Goals as goal

pub fill-window-requires-clause-empty : goal.fill-window-requires-clause-empty
fill-window-requires-clause-empty c = headed_none 2039 12288 (omega arith)

pub fill-window-requires-clause-room : goal.fill-window-requires-clause-room
fill-window-requires-clause-room c = omega (arith, set_room_lem)

pub overflow_sub-result : goal.overflow_sub-result
overflow_sub-result c =
    let a = c.args in
    let d = stored a.heads.now a.states.now a.trs.now a.w.used.states a.w.used.trs in
    let f = c.fill-window.ensures in
    let e = c.count_earlier-old.ensures (λ t. missing (find d t)) f.0 (steps_from a.w.options a.m1.now a.m2.now a.a1.now a.a2.now a.ignored.now a.from) (room_of state_size (replicate 12288 0)) (omega (arith, set_room_lem)) f.2 in
    omega (arith, e)

pub returns : goal.returns
unfolding is_new
returns c =
    let a = c.args in
    let d = stored a.heads.now a.states.now a.trs.now a.w.used.states a.w.used.trs in
    let all = steps_from a.w.options a.m1.now a.m2.now a.a1.now a.a2.now a.ignored.now a.w.start in
    let steps = steps_from a.w.options a.m1.now a.m2.now a.a1.now a.a2.now a.ignored.now a.from in
    let f = c.fill-window.ensures in
    let e : c.count_earlier-old.result + new_within (is_new d all a.before) f.0 steps ≡ c.fill-window.result.states =
    c.count_earlier-old.ensures (λ t. missing (find d t)) f.0 steps (room_of state_size (replicate 12288 0)) (omega (arith, set_room_lem)) f.2 in
    (f.0, f.1, omega (arith, e))
