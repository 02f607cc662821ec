-- Refusal 11, or the cursor with the label's own matches and the sigma matches after them.
use mathlib.Core.Path.{refl, sym, ◌∙◌}
use Rattle.words.specs.Machines.{side_mark}
use Rattle.words.specs.Sigmas.{lookup}
use Rattle.words.proofs.ReplacedLaws.{read_first}
use Rattle.fst.specs.Meaning.{on_of, read_as, ignored_under}
use Rattle.matchers.specs.Meaning.{lookup_items, allowed_of}
use Rattle.matchers.specs.Cursors.{own_left, sigma_left, items_left, matches_left}
use Rattle.matchers.proofs.Starts.{sigma_start}
use Rattle.matchers.proofs.sigma_matcher.sigma_iter.Goals as goal

pub returns-then-is_sigma : goal.returns-then-is_sigma
unfolding lookup_items lookup
returns-then-is_sigma c = record { result_value = rw (← c.is_sigma.ensures, c.if-is_sigma.true); place = tt }

pub returns : goal.returns
unfolding lookup_items lookup items_left matches_left own_left sigma_left
returns c =
    let a = c.args in
    let m = read_as a.m.on a.m.sigmas a.m.ignored.now a.m.words.now in
    let allowed = allowed_of a.sigma.listed a.allowed.now in
    let first = c.first_tr-first.ensures ∙ sym (read_first (on_of a.m.on) (ignored_under a.m.sigmas a.m.ignored.now) a.m.words.now a.s.0) in
    rw (← c.is_sigma.ensures, c.if-is_sigma.false, c.eq.ensures, c.rewrites_both.ensures, c.sigma_from-from.ensures, c.seek-tr.ensures, c.looked.ensures, first, sigma_start (on_of a.m.on) m (side_mark (on_of a.m.on) m) a.sigma.acceptor a.sigma.label.0 a.sigma.mode allowed a.s.0 a.label.0)
    (record { result_value = refl; place = refl })
