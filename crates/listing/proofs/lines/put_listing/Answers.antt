-- Three texts one after the other.
use Rattle.store_records.specs.Meaning.{memory_of}
use Rattle.lazy_fst.specs.Meaning.{lent_with, session_means}
use Rattle.listing_write.proofs.WrittenLaws.{then, same_text}
use Rattle.listing.specs.Stages.{lines_from}
use Rattle.listing.proofs.StageLaws.{whole_listing}
use Rattle.listing.proofs.lines.put_listing.Goals as goal

pub returns-clause-fact_2 : goal.returns-clause-fact_2
returns-clause-fact_2 c =
    let a = c.args in
    let lines = lines_from (lent_with a.m1.now a.m2.now a.allowed1.now a.allowed2.now a.ignored.now a.listed) (session_means a.session) (memory_of a.heads.now a.states.now a.trs.now) 0 a.session.used.states in
    same_text (whole_listing a.session.side a.session.used.states a.session.used.trs lines) (then c.put_side-a.ensures.written (then c.put_states-b.ensures.fact_2 c.put_end.ensures.written))
