-- The checks 1 to 7 leave machines within the limit.
use mathlib.Core.Path.{sym}
use Rattle.std.specs.Prelude.{None}
use Rattle.session_checks.specs.Meaning.{settings_means, lent_slices}
use Rattle.fan_outs.proofs.Bounds.{within_limit}
use Rattle.fan_out_call.proofs.fan_out.Goals as goal

pub fan_out_at-requires : goal.fan_out_at-requires
fan_out_at-requires c =
    let a = c.args in
    within_limit (settings_means a.settings) (lent_slices a.m1.now a.m2.now None None a.ignored.now) _ (sym (c.in_ok-side_for.ensures None None))
