use mathlib.Core.Path.{sym, ◌∙◌, ap, subst}
use native.Mathlib.Omega.{arith}
use lib.ListN.{length}
use Rattle.lists.proofs.Put.{length_put}
use Rattle.store_records.specs.Meaning.{store_in}
use Rattle.trim_passes.specs.Passes.{rows_from}
use Rattle.trim_rows.specs.Rows.{nothing, Fits}
use Rattle.trim_rows.proofs.RowTurns.{headed_as}
use Rattle.trim_rows.proofs.write_machine.Goals as goal

pub write_header-requires : goal.write_header-requires
write_header-requires c = let room = (c.requires.room c.requires.fact.0 c.requires.fact.1).0.room_for_lem in omega (arith, room)

pub write_rows-requires-clause-room : goal.write_rows-requires-clause-room
write_rows-requires-clause-room c = λ k e.
    let a = c.args in
    let d = store_in a.heads.now a.states.now a.trs.now a.session.used in
    subst (λ z. Fits a.rows z nothing (rows_from k d a.work.now 0)) (sym (ap length c.write_header.ensures ∙ length_put _ _ _)) (c.requires.room k e).0

pub returns : goal.returns
returns c = λ k e. c.write_rows.ensures k e ∙ headed_as _ _ _ _ _ _ (c.requires.room k e).0.all (c.requires.room k e).1 c.number_of.ensures c.write_header.ensures
