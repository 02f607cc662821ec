-- The refusal of the look-up, or the count of its cursor.
use mathlib.Core.Path.{◌≡◌, ap}
use borrow.Author.Rules.{rules}
use Rattle.std.specs.Prelude.{Err}
use Rattle.fst.specs.Meaning.{on_of, read_as}
use Rattle.matchers.specs.Meaning.{allowed_of, operand_in}
use Rattle.matchers.specs.Cursors.{held_words}
use Rattle.matchers.specs.declared.Cursor.{Cursor}
use Rattle.counted_iter.proofs.Counts.{items_counted, items_refused}
use Rattle.counted_iter.proofs.counted_iter.Goals as goal

pub returns-in_err-cursor-clause-result_value : goal.returns-in_err-cursor-clause-result_value
returns-in_err-cursor-clause-result_value c =
    let a = c.args in
    let o = operand_in (on_of a.m.on) (read_as a.m.on a.m.sigmas a.m.ignored.now a.m.words.now) a.sigma (allowed_of a.sigma.listed a.allowed.now) in
    let e : c.from_residual.result ≡ Err c.in_err-cursor.field-0.0 = search rules in
    rw e (items_refused o a.s.0 a.label.0 _ c.in_err-cursor.ensures.result_value)

pub returns-clause-result_value : goal.returns-clause-result_value
returns-clause-result_value c =
    let a = c.args in
    let words = read_as a.m.on a.m.sigmas a.m.ignored.now a.m.words.now in
    let o = operand_in (on_of a.m.on) words a.sigma (allowed_of a.sigma.listed a.allowed.now) in
    let found = c.in_ok-cursor.ensures in
    let same : held_words c.in_ok-cursor.cursor a.m.ignored.now a.m.words.now ≡ words = ap (λ (d : Cursor). held_words d a.m.ignored.now a.m.words.now) found.place in
    rw (c.counted.ensures.result_value, same) (items_counted o a.s.0 a.label.0 words c.in_ok-cursor.cursor found.result_value)
