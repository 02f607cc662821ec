-- The opening's refusal, or what comes after it.
use mathlib.Core.Path.{refl, sym, ap, ◌∙◌}
use Rattle.calls.specs.Calls.{open_of}
use Rattle.calls.specs.Checks.{Session}
use Rattle.calls.specs.Listing.{refused_line, no_session}
use Rattle.session_checks.specs.Meaning.{settings_means}
use Rattle.store_records.specs.Meaning.{memory_of}
use Rattle.lazy_fst.specs.Meaning.{lent_with, left}
use Rattle.listing_text.specs.Printing.{bytes_of}
use Rattle.listing_write.proofs.WrittenLaws.{same_text}
use Rattle.listing.proofs.LineLaws.{bytes_one}
use Rattle.listing.proofs.StageLaws.{open_refused, open_few}
use Rattle.listing.proofs.stages.open_listing.Goals as goal

pub run_listing-requires-clause-few : goal.run_listing-requires-clause-few
run_listing-requires-clause-few c =
    let a = c.args in
    let r = c.open-answer in
    let s = settings_means a.settings in
    let l = lent_with a.m1.now a.m2.now a.allowed1.now a.allowed2.now a.ignored.now a.listed in
    let m = memory_of a.heads.now a.states.now a.trs.now in
    let e = sym (ap (λ x. left x (memory_of r.new.heads r.new.states r.new.trs)) c.in-Ok.is) ∙ r.ensures ∙ ap (λ (x : Session). open_of s l x m) c.no_session-got.ensures in
    open_few s l (no_session s) m _ e refl

pub returns-in-Err-clause-fact : goal.returns-in-Err-clause-fact
returns-in-Err-clause-fact c =
    let a = c.args in
    let r = c.open-answer in
    let s = settings_means a.settings in
    let l = lent_with a.m1.now a.m2.now a.allowed1.now a.allowed2.now a.ignored.now a.listed in
    let m = memory_of a.heads.now a.states.now a.trs.now in
    let e = sym (ap (λ x. left x (memory_of r.new.heads r.new.states r.new.trs)) c.in-Err.is) ∙ r.ensures ∙ ap (λ (x : Session). open_of s l x m) c.no_session-got.ensures in
    same_text (sym (bytes_one (refused_line _)) ∙ ap bytes_of (open_refused s l (no_session s) m _ e _ refl)) (rw c.from.ensures at c.put_refused.ensures.written)
