-- The cursor begins at the first own transition and has no sigma transitions.
use mathlib.Core.Path.{refl}
use mathlib.Core.Bool.{false}
use Rattle.words.specs.Labels.{no_label}
use Rattle.words.specs.Sigmas.{rewrite}
use Rattle.words.proofs.ReplacedLaws.{read_first}
use Rattle.fst.specs.Meaning.{on_of, read_as, ignored_under}
use Rattle.matchers.specs.Cursors.{own_left, sigma_left, items_left, matches_left}
use Rattle.matchers.proofs.Starts.{own_start, sorted_items_lem}
use Rattle.matchers.proofs.sorted_matcher.sorted_iter.Goals as goal

pub returns : goal.returns
unfolding items_left matches_left own_left sigma_left
returns c =
    let a = c.args in
    let m = read_as a.m.on a.m.sigmas a.m.ignored.now a.m.words.now in
    rw (c.eq.ensures, c.seek-tr.ensures, c.first_tr.ensures, ← read_first (on_of a.m.on) (ignored_under a.m.sigmas a.m.ignored.now) a.m.words.now a.s.0, c.looked.ensures, own_start (on_of a.m.on) m no_label a.s.0 a.label.0) (record { result_value = sorted_items_lem (on_of a.m.on) m a.s.0 a.label.0 (rewrite false (on_of a.m.on) no_label a.label.0); place = refl })
