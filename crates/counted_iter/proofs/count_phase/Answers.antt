-- By the phase: the own transitions and then the sigma transitions, or these alone.
use native.Mathlib.Omega.{arith}
use Rattle.matchers.specs.Cursors.{held_words}
use Rattle.counted_iter.proofs.Counts.{count_own, count_sigmas}
use Rattle.counted_iter.proofs.count_phase.Goals as goal

pub returns-in-Own : goal.returns-in-Own
returns-in-Own c =
    let a = c.args in
    let own = rw c.looked.ensures at c.count_label-own.ensures in
    let sigmas = c.count_label.ensures in
    record { value = count_own (held_words a.cursor a.ignored.now a.m.now) a.cursor _ _ c.in-Own.is own.value sigmas.value; few = omega (arith, own.few, sigmas.few) }

pub returns-in-Sigmas : goal.returns-in-Sigmas
returns-in-Sigmas c =
    let a = c.args in
    let sigmas = c.count_label-in-Sigmas.ensures in
    record { value = count_sigmas (held_words a.cursor a.ignored.now a.m.now) a.cursor _ c.in-Sigmas.is sigmas.value; few = omega (arith, sigmas.few) }
