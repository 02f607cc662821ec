-- No sigma, or else whether a first record with it is found.
use mathlib.Core.Path.{sym, ◌∙◌}
use Rattle.words.specs.Sigmas.{sigma_trs}
use Rattle.words.proofs.ReplacedLaws.{read_first}
use Rattle.fst.specs.Meaning.{on_of, ignored_under}
use Rattle.matchers.proofs.Seeks.{with_first, sought_any}
use Rattle.matchers.proofs.sigma_matcher.has_sigma.Goals as goal

pub returns-then-ne : goal.returns-then-ne
unfolding sigma_trs
returns-then-ne c =
    let a = c.args in
    let first = c.first_tr.ensures ∙ sym (read_first (on_of a.m.on) (ignored_under a.m.sigmas a.m.ignored.now) a.m.words.now a.s.0) in
    rw (← c.ne.ensures, c.if-ne.true, c.seek.ensures, first, ← with_first, sought_any)

pub returns-else-ne : goal.returns-else-ne
unfolding sigma_trs
returns-else-ne c = rw (← c.ne.ensures, c.if-ne.false)
