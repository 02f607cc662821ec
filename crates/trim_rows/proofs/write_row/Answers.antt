use mathlib.Core.Path.{sym, ◌∙◌, ap, subst}
use mathlib.Core.List.{List}
use Prim.Native.Nat.{ℕ, ◌+◌, ◌*◌, ◌≤◌}
use lib.ListN.{length}
use Rattle.words.specs.Machines.{limit}
use Rattle.graphs.specs.StoreMachine.{given_weight}
use Rattle.machine_words.specs.MachineWords.{Row}
use Rattle.store_records.specs.Meaning.{memory_of, store_in}
use Rattle.lazy_fst.specs.Meaning.{weight_left}
use Rattle.trim_rows.specs.Rows.{done_means, counted, filled}
use Rattle.trim_rows.proofs.RowTurns.{kept_alike, row_skipped, row_fits, row_counted, row_written, final_found}
use Rattle.trim_rows.proofs.write_row.Goals as goal

pub returns-then-number_of-eq0 : goal.returns-then-number_of-eq0
returns-then-number_of-eq0 c =
    let a = c.args in
    let d = store_in a.heads.now a.states.now a.trs.now a.session.used in
    let dropped = sym c.number_of.ensures ∙ c.if-number_of-eq0.true in
    record {
      n_value = λ k. ap (counted (done_means a.done)) (row_skipped k d _ _ c.requires.room.0 dropped);
      words = λ k e. ap (λ (x : List Row). filled a.rows (done_means a.done) x a.out.now) (row_skipped k d _ _ c.requires.room.0 dropped);
    }

pub put_row-requires : goal.put_row-requires
put_row-requires c =
    let a = c.args in
    let k = c.requires.fact.0 in
    let d = store_in a.heads.now a.states.now a.trs.now a.session.used in
    let f = row_fits k d _ _ _ _ _ (done_means a.done) c.requires.room.0 (λ e. c.if-number_of-eq0.false (c.number_of.ensures ∙ e)) (c.first_record-first.ensures a.heads.now a.trs.now a.session.used.states) (c.requires.room.1 k c.requires.fact.1) in
    record {
      rows_lt_rows = (f.0, f.1);
      room = λ heads states u. subst (λ (l : List ℕ). (a.done.trs + length l ≤ limit) × (6 + 3 * a.rows + 5 * (a.done.trs + length l) ≤ length a.out.now)) (kept_alike _ _ _ _ _ _ _ _ _ _) (f.2, f.3);
    }

pub returns : goal.returns
returns c =
    let a = c.args in
    let m = memory_of a.heads.now a.states.now a.trs.now in
    let d = store_in a.heads.now a.states.now a.trs.now a.session.used in
    let first = c.first_record-first.ensures a.heads.now a.trs.now a.session.used.states in
    let counts = c.put_row.ensures.by_index a.heads.now a.states.now a.session.used.states in
    let weight = c.trusted_final_weight-weight in
    record {
      n_value = λ k. row_counted k d _ _ _ (done_means a.done) _ counts c.requires.room.0 (λ e. c.if-number_of-eq0.false (c.number_of.ensures ∙ e)) first;
      words = λ k e. row_written k d _ _ _ _ _ (done_means a.done) _ _ _ (given_weight (weight_left weight.result m).answer) counts c.requires.room.0 (λ e. c.if-number_of-eq0.false (c.number_of.ensures ∙ e)) first (ap (λ x. given_weight x.answer) weight.ensures ∙ ap given_weight (final_found _ _ _ k _ e c.requires.room.0)) (c.requires.room.1 k e) (c.put_row.ensures.words a.heads.now a.states.now a.session.used.states m);
    }
