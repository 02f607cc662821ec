-- The records within the words decide for all.
use mathlib.Core.Path.{◌∙◌}
use Rattle.fst.specs.Meaning.{on_of, ignored_under}
use Rattle.words.proofs.ReplacedLaws.{read_length, read_count}
use Rattle.fst_properties.proofs.Falls.{near_acceptor}
use Rattle.fst_properties.proofs.properties.acceptor.Goals as goal

pub returns : goal.returns
returns c =
    let a = c.args in
    let g = ignored_under a.m.sigmas a.m.ignored.now in
    rw (c.least-n.ensures, c.num_records.ensures, ← read_count (on_of a.m.on) g a.m.words.now, ← read_length (on_of a.m.on) g a.m.words.now) at c.all_records.ensures ∙ near_acceptor _
