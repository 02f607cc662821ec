-- Settings of six words or 1; then the call, for what the query asks.
use mathlib.Core.Path.{sym, ◌∙◌}
use mathlib.Core.List.{[]}
use Rattle.std.specs.Prelude.{None}
use borrow.Author.Tests.{ne_eqb}
use Rattle.words.specs.Labels.{and_then}
use Rattle.calls.specs.Checks.{side_for}
use Rattle.session_checks.specs.Meaning.{lent_slices}
use Rattle.fan_outs.specs.FanOut.{fan_out_of, fan_out_line}
use Rattle.fan_outs.proofs.OpenedRoom.{line_checked}
use Rattle.fan_out.proofs.look_up.Goals as goal

pub returns-then-settings-ne-SETTINGS_WORDS : goal.returns-then-settings-ne-SETTINGS_WORDS
unfolding fan_out_line
returns-then-settings-ne-SETTINGS_WORDS c = rw (ne_eqb _ _ c.if-settings-ne-SETTINGS_WORDS.true)

pub returns : goal.returns
unfolding fan_out_of
returns c =
    let a = c.args in
    let l = lent_slices a.m1.now a.m2.now None None [] in
    let s = c.read_settings-wanted.ensures in
    c.fan_out.ensures
    ∙ (λ i. and_then (side_for (s i) l) (λ side. c.asked-machine.ensures (s i) l i))
    ∙ sym (line_checked a.settings.now l a.query.now c.if-settings-ne-SETTINGS_WORDS.false)
