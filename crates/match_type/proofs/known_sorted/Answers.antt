-- A mark of 1 or 2 that passed the check says the fact.
use mathlib.Core.Path.{sym, ◌∙◌}
use borrow.Author.Tests.{not-true}
use Rattle.fst.specs.Meaning.{on_of, ignored_under}
use Rattle.words.specs.Machines.{sorted, machine_of}
use Rattle.words.proofs.FormLaws.{form}
use Rattle.words.proofs.ReplacedLaws.{marked_read}
use Rattle.match_type.proofs.known_sorted.Goals as goal

pub returns-in-1 : goal.returns-in-1
returns-in-1 c =
    let x = c.args in
    let h = marked_read (on_of x.m.on) (ignored_under x.m.sigmas x.m.ignored.now) x.m.words.now 0 (sym c.inner_mark.ensures ∙ c.in-1.is) in
    let e = (form x.m.words.now c.requires).mark (on_of x.m.on) in
    rw h.1 (sym (rw h.0 at e))

pub returns-in-2 : goal.returns-in-2
returns-in-2 c =
    let x = c.args in
    let h = marked_read (on_of x.m.on) (ignored_under x.m.sigmas x.m.ignored.now) x.m.words.now 1 (sym c.inner_mark.ensures ∙ c.in-2.is) in
    let e = (form x.m.words.now c.requires).mark (on_of x.m.on) in
    rw h.1 (sym (not-true (sorted (on_of x.m.on) (machine_of x.m.words.now)) (rw h.0 at e)))
