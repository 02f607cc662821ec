use mathlib.Core.Path.{sym, ◌∙◌, ap}
use mathlib.Core.List.{[]}
use Prim.Native.Nat.{◌+◌}
use native.Mathlib.Omega.{arith}
use lib.ListN.{length, length-set, length-map}
use Rattle.lists.proofs.Put.{length_put}
use Rattle.graphs.specs.StoreMachine.{given_weight}
use Rattle.store_records.specs.Meaning.{stored}
use Rattle.lazy_fst.specs.Meaning.{weight_left}
use Rattle.trim_passes.specs.Passes.{kept_from, new_tr, new_list}
use Rattle.trim_rows.proofs.RowTurns.{row_put}
use Rattle.trim_rows.proofs.put_row.Goals as goal

pub first_in-requires : goal.first_in-requires
first_in-requires c = let few = (c.requires.room [] [] 0).0 in omega (arith, few)

pub bounds-out-at : goal.bounds-out-at
bounds-out-at c =
    let same = ap length (c.write_list-after.ensures.words [] [] 0) ∙ length_put _ _ _ in
    let room = (c.requires.room [] [] 0).1 in
    omega (arith, room, same, c.requires.rows_lt_rows)

pub put_weight-requires : goal.put_weight-requires
put_weight-requires c =
    let same = ap length (c.write_list-after.ensures.words [] [] 0) ∙ length_put _ _ _ in
    let room = (c.requires.room [] [] 0).1 in
    simp length-set (omega (arith, room, same, c.requires.rows_lt_rows))

pub returns-clause-words : goal.returns-clause-words
returns-clause-words c = λ heads states u m.
    let a = c.args in
    let d = stored heads states a.trs.now u a.used in
    let kept = kept_from d a.work.now a.first in
    row_put _ _ _ _ _ _ _ _ (new_list d a.work.now a.first) (given_weight (weight_left a.weight m).answer) (c.write_list-after.ensures.by_index heads states u ∙ ap (λ x. a.done.trs + x) (sym (length-map kept (new_tr d a.work.now)))) (c.write_list-after.ensures.words heads states u) c.first_in.ensures (c.put_weight.ensures m)
