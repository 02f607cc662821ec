use mathlib.Core.Path.{sym, ◌∙◌, ap, subst}
use mathlib.Core.List.{List}
use Rattle.machine_words.specs.MachineWords.{Row}
use Rattle.store_records.specs.Meaning.{store_in}
use Rattle.trim_passes.specs.Passes.{rows_from}
use Rattle.trim_passes.proofs.RowLaws.{rows_end}
use Rattle.trim_rows.specs.Rows.{done_means, filled, Fits}
use Rattle.trim_rows.proofs.RowTurns.{none_filled, fits_on}
use borrow.Author.Rules.{rules}
use Rattle.trim_rows.proofs.write_rows.Goals as goal

pub write_row-done-requires-clause-room : goal.write_row-done-requires-clause-room
write_row-done-requires-clause-room c =
    let a = c.args in
    let d = store_in a.heads.now a.states.now a.trs.now a.session.used in
    (c.loop-n-test.true, λ k e. subst (λ z. Fits a.rows z (done_means c.loop-n.done) (rows_from k d a.work.now c.loop-n.n)) (sym c.loop-n.invariant.sized) (c.loop-n.invariant.fits k e))

pub loop-n-preserved : goal.loop-n-preserved
loop-n-preserved c = record {
  sized = search rules;
  fits = λ k e. fits_on _ _ _ _ _ _ (c.loop-n.invariant.fits k e) (c.write_row-done.ensures.n_value k);
  words = λ k e. c.write_row-done.ensures.words k e ∙ c.loop-n.invariant.words k e;
}

pub returns : goal.returns
returns c = λ k e.
    let a = c.args in
    let done = done_means c.loop-n.done in
    let d = store_in a.heads.now a.states.now a.trs.now a.session.used in
    sym (none_filled _ done _) ∙ ap (λ (x : List Row). filled a.rows done x c.loop-n.out) (sym (rows_end k d a.work.now _ c.loop-n-test.false)) ∙ c.loop-n.invariant.words k e
