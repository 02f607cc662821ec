-- By the machine's number; what each states is a word, since neither machine passes the limit.
use mathlib.Core.Path.{sym, ◌∙◌}
use borrow.Author.Tests.{eq-eqb, ne_eqb}
use Rattle.words.specs.Matches.{inputs, outputs}
use Rattle.words.specs.Ignored.{Ignored}
use Rattle.matchers.specs.Meaning.{allowed_of}
use Rattle.fan_outs.proofs.Bounds.{fan_out_word}
use Rattle.fan_out_call.proofs.Counts.{count_read}
use Rattle.fan_out_call.proofs.look_up.Goals as goal

pub stated-requires : goal.stated-requires
stated-requires c =
    let a = c.args in
    let g : Ignored = record { list = a.ignored.now; sigma1 = a.settings.sigma1.0; sigma2 = a.settings.sigma2.0 } in
    let same = count_read outputs g a.m1.now (record { label = a.settings.sigma1; mode = a.settings.mode1; listed = a.listed.first; acceptor = 0 }) (allowed_of a.listed.first a.allowed1.now) a.s.0 a.label.0 in
    λ n e. fan_out_word g outputs a.m1.now a.settings.sigma1.0 a.settings.mode1 (allowed_of a.listed.first a.allowed1.now) a.s.0 a.label.0 c.requires.0 n (sym (rw c.first.ensures at c.counted_iter.ensures.result_value ∙ same) ∙ e)

pub returns-then-machine-eq1 : goal.returns-then-machine-eq1
returns-then-machine-eq1 c =
    let a = c.args in
    let g : Ignored = record { list = a.ignored.now; sigma1 = a.settings.sigma1.0; sigma2 = a.settings.sigma2.0 } in
    rw (eq-eqb _ _ c.if-machine-eq1.true) (c.stated.ensures ∙ (rw c.first.ensures at c.counted_iter.ensures.result_value ∙ count_read outputs g a.m1.now (record { label = a.settings.sigma1; mode = a.settings.mode1; listed = a.listed.first; acceptor = 0 }) (allowed_of a.listed.first a.allowed1.now) a.s.0 a.label.0))

pub stated-requires-2 : goal.stated-requires-2
stated-requires-2 c =
    let a = c.args in
    let g : Ignored = record { list = a.ignored.now; sigma1 = a.settings.sigma1.0; sigma2 = a.settings.sigma2.0 } in
    let same = count_read inputs g a.m2.now (record { label = a.settings.sigma2; mode = a.settings.mode2; listed = a.listed.second; acceptor = 0 }) (allowed_of a.listed.second a.allowed2.now) a.s.0 a.label.0 in
    λ n e. fan_out_word g inputs a.m2.now a.settings.sigma2.0 a.settings.mode2 (allowed_of a.listed.second a.allowed2.now) a.s.0 a.label.0 c.requires.1 n (sym (rw c.second.ensures at c.counted_iter-2.ensures.result_value ∙ same) ∙ e)

pub returns : goal.returns
returns c =
    let a = c.args in
    let g : Ignored = record { list = a.ignored.now; sigma1 = a.settings.sigma1.0; sigma2 = a.settings.sigma2.0 } in
    rw (ne_eqb _ _ c.if-machine-eq1.false) (c.stated-2.ensures ∙ (rw c.second.ensures at c.counted_iter-2.ensures.result_value ∙ count_read inputs g a.m2.now (record { label = a.settings.sigma2; mode = a.settings.mode2; listed = a.listed.second; acceptor = 0 }) (allowed_of a.listed.second a.allowed2.now) a.s.0 a.label.0))
