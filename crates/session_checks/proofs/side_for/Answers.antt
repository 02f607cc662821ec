-- No refusal stands: the rule.
use Rattle.fst.proofs.Tests.{holds}
use Rattle.calls.specs.Checks.{side_for_with}
use Rattle.match_type.proofs.SideLaws.{side_of_call}
use Rattle.session_checks.specs.Meaning.{settings_means, lent_slices}
use Rattle.session_checks.proofs.side_for.Goals as goal

pub returns : goal.returns
unfolding side_for_with
returns c =
    let x = c.args in
    λ a1 a2. rw (holds c.settings_ok.ensures c.if-not-settings_ok.false, holds c.well_formed-2.ensures c.if-not-well_formed.false, holds c.well_formed-3.ensures c.if-not-well_formed-2.false, holds c.ignored_ok.ensures c.if-not-ignored_ok.false, side_of_call (settings_means x.settings) (lent_slices x.m1.now x.m2.now a1 a2 x.ignored.now)) c.match_type.ensures
