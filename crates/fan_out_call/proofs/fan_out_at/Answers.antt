-- 9, or the look_up.
use mathlib.Core.Path.{◌≡◌}
use mathlib.Core.Bool.{true, false}
use Rattle.std.specs.Prelude.{None}
use lib.Dec.{leb}
use borrow.Author.Tests.{le-leb, lt-leb}
use Rattle.session_checks.specs.Meaning.{lent_slices}
use Rattle.fan_outs.specs.FanOut.{states_of, fan_out_at}
use Rattle.fan_out_call.proofs.fan_out_at.Goals as goal

pub returns-then-states_of-s : goal.returns-then-states_of-s
unfolding fan_out_at
returns-then-states_of-s c =
    let a = c.args in
    let h : leb (states_of (lent_slices a.m1.now a.m2.now None None a.ignored.now) a.machine) a.s.0 ≡ true = le-leb _ _ (rw (c.states_of.ensures None None a.ignored.now) at c.if-states_of-s.true) in
    rw h

pub returns : goal.returns
unfolding fan_out_at
returns c =
    let a = c.args in
    let h : leb (states_of (lent_slices a.m1.now a.m2.now None None a.ignored.now) a.machine) a.s.0 ≡ false = lt-leb _ _ (rw (c.states_of.ensures None None a.ignored.now) at c.if-states_of-s.false) in
    rw h c.look_up.ensures
