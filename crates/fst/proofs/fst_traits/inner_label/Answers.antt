-- The label of the words as they are read is the one that is heard.
use mathlib.Core.Path.{sym, ◌∙◌}
use Rattle.words.proofs.ReplacedLaws.{read_label}
use Rattle.fst.specs.Meaning.{on_of, ignored_under}
use Rattle.fst.proofs.fst_traits.inner_label.Goals as goal

pub returns : goal.returns
returns c =
    let a = c.args in
    c.heard.ensures ∙ rw c.label_on.ensures (sym (read_label (on_of a.m.on) (ignored_under a.m.sigmas a.m.ignored.now) a.m.words.now a.t))
