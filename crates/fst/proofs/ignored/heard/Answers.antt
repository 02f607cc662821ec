-- A label that is not listed is itself, and so is a sigma label; another is 0.
use mathlib.Core.Path.{sym, ◌∙◌}
use mathlib.Core.Bool.{true, false}
use Rattle.words.proofs.ExemptLaws.{heard_unlisted, heard_listed}
use Rattle.fst.specs.Meaning.{ignored_under}
use Rattle.fst.proofs.Tests.{fails, holds}
use Rattle.fst.proofs.ignored.heard.Goals as goal

pub returns-then-not-has : goal.returns-then-not-has
returns-then-not-has c =
    let a = c.args in
    sym (heard_unlisted (ignored_under a.sigmas a.ignored.now) a.label.0 (fails c.has.ensures c.if-not-has.true))

pub returns-then-is_sigma : goal.returns-then-is_sigma
returns-then-is_sigma c =
    let a = c.args in
    sym (heard_listed (ignored_under a.sigmas a.ignored.now) a.label.0 true (holds c.has.ensures c.if-not-has.false) (sym c.is_sigma.ensures ∙ c.if-is_sigma.true))

pub returns-else-is_sigma : goal.returns-else-is_sigma
returns-else-is_sigma c =
    let a = c.args in
    sym (heard_listed (ignored_under a.sigmas a.ignored.now) a.label.0 false (holds c.has.ensures c.if-not-has.false) (sym c.is_sigma.ensures ∙ c.if-is_sigma.false))
