-- A refusal, or the listing.
use mathlib.Core.Path.{sym, ap, ◌∙◌}
use Rattle.calls.specs.Listing.{refused_line}
use Rattle.store_records.specs.Meaning.{memory_of}
use Rattle.lazy_fst.specs.Meaning.{lent_with, session_means}
use Rattle.listing_text.specs.Printing.{bytes_of}
use Rattle.listing_write.proofs.WrittenLaws.{same_text}
use Rattle.listing.proofs.LineLaws.{bytes_one}
use Rattle.listing.proofs.WeightLaws.{all_listed, refused_listed}
use Rattle.listing.proofs.stages.weigh_listing.Goals as goal

pub returns-in-Ok-clause-fact_2 : goal.returns-in-Ok-clause-fact_2
returns-in-Ok-clause-fact_2 c =
    let a = c.args in
    let e = rw c.in-Ok.is at c.take_weights-weights.ensures in
    same_text (ap bytes_of (sym (all_listed (lent_with a.m1.now a.m2.now a.allowed1.now a.allowed2.now a.ignored.now a.listed) (session_means a.session) (memory_of a.heads.now a.states.now a.trs.now) (sym e)))) c.put_listing.ensures.fact_2

pub returns-in-Err-clause-fact_2 : goal.returns-in-Err-clause-fact_2
returns-in-Err-clause-fact_2 c =
    let a = c.args in
    let e = rw c.in-Err.is at c.take_weights-weights.ensures in
    same_text (sym (bytes_one (refused_line _)) ∙ ap bytes_of (sym (refused_listed (lent_with a.m1.now a.m2.now a.allowed1.now a.allowed2.now a.ignored.now a.listed) (session_means a.session) (memory_of a.heads.now a.states.now a.trs.now) _ (sym e)))) (rw c.from.ensures at c.put_refused.ensures.written)
