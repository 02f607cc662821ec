-- The number is a word.
use mathlib.Core.Path.{◌≡◌}
use native.Mathlib.Omega.{arith}
use borrow.Author.Rules.{rules}
use Rattle.words.specs.Labels.{good}
use Rattle.fst.specs.Refusals.{checked_by}
use Rattle.counted_iter.specs.Counted.{count_of}
use Rattle.fan_out_call.proofs.stated.Goals as goal

pub overflow_cast-result : goal.overflow_cast-result
overflow_cast-result c =
    let e : checked_by count_of c.args.found ≡ good c.in-Some.n = search rules in
    let h = c.requires _ e in
    record { fits = omega (arith, h) }
