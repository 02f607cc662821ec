-- The first sigma transition from the place on, and after it what its link leads to.
use mathlib.Core.Path.{◌≡◌, sym, ap, ◌∙◌}
use Rattle.words.specs.Matches.{tr_of}
use Rattle.words.specs.Machines.{next_of, machine_of}
use Rattle.words.specs.Sigmas.{rewrite}
use Rattle.words.proofs.ReplacedLaws.{read_next}
use Rattle.fst.specs.Meaning.{on_of, ignored_under}
use Rattle.matchers.specs.Cursors.{held_words, moved_to}
use Rattle.matchers.specs.declared.Phase.TheVariants.{Sigmas}
use Rattle.matchers.proofs.Turns.{same_gives, sigma_end, sigma_end_place, next_sigma, sigma_turn, sigma_turn_place}
use Rattle.matchers.proofs.sigma_next.Goals as goal

pub returns-then-t-eq0 : goal.returns-then-t-eq0
returns-then-t-eq0 c =
    let a = c.args in
    let words = held_words a.cursor a.ignored.now a.m.now in
    let none = sym (rw c.read_by-read.ensures at c.seek-t.ensures) ∙ c.if-t-eq0.true in
    rw c.moved.ensures (record { result_value = sigma_end words a.cursor none; place = sigma_end_place words a.cursor none })

pub returns : goal.returns
returns c =
    let a = c.args in
    let words = held_words a.cursor a.ignored.now a.m.now in
    let found = rw c.read_by-read.ensures at c.seek-t.ensures in
    let some : next_sigma words a.cursor ≡ 0 → ⊥ = λ z. c.if-t-eq0.false (found ∙ z) in
    let given = c.rewrite-found.ensures ∙ ap (rewrite a.cursor.both (on_of a.cursor.on) a.cursor.sigma.0 a.cursor.label.0) (rw c.read_by-read.ensures at c.get_tr.ensures ∙ ap (tr_of (machine_of words)) found) in
    let place = c.moved-2.ensures ∙ ap (moved_to a.cursor Sigmas) (c.next_tr.ensures ∙ (sym (read_next (on_of a.cursor.on) (ignored_under a.cursor.labels a.ignored.now) a.m.now _) ∙ ap (next_of words) found)) in
    record { result_value = same_gives words given place ∙ sigma_turn words a.cursor some; place = place ∙ sigma_turn_place words a.cursor some }
