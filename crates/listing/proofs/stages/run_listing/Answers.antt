-- The run's refusal, or what comes after it; an accepted run leaves few lines.
use mathlib.Core.Path.{◌≡◌, refl, sym, ap, ◌∙◌}
use lib.ListN.{length}
use borrow.Author.Rules.{rules}
use Rattle.calls.specs.Listing.{refused_line}
use Rattle.store_records.specs.Meaning.{memory_of}
use Rattle.lazy_fst.specs.Meaning.{lent_with, session_means, left}
use Rattle.listing_text.specs.Printing.{bytes_of}
use Rattle.listing_write.proofs.WrittenLaws.{same_text}
use Rattle.listing.proofs.LineLaws.{bytes_one}
use Rattle.listing.proofs.StageLaws.{ran_refused, ran_few, ran_passes, lines_room}
use Rattle.listing.proofs.stages.run_listing.Goals as goal

pub weigh_listing-requires : goal.weigh_listing-requires
weigh_listing-requires c =
    let a = c.args in
    let r = c.run-answer in
    let l = lent_with a.m1.now a.m2.now a.allowed1.now a.allowed2.now a.ignored.now a.listed in
    let s = session_means a.session in
    let m = memory_of a.heads.now a.states.now a.trs.now in
    let m' = memory_of r.new.heads r.new.states r.new.trs in
    let e = sym (ap (λ x. left x m') c.in-Ok.is) ∙ r.ensures in
    let states : length r.new.states ≡ length a.states.now = search rules in
    let trs : length r.new.trs ≡ length a.trs.now = search rules in
    record {
      fact = lines_room m' _ a.out.now (states ∙ c.requires.sized.state_words) (trs ∙ c.requires.sized.tr_words) (ran_few l s m _ e refl c.requires.few) c.requires.sized.bytes;
      passes = ran_passes l s m _ e refl;
    }

pub returns-in-Err-clause-fact : goal.returns-in-Err-clause-fact
returns-in-Err-clause-fact c =
    let a = c.args in
    let r = c.run-answer in
    let e = sym (ap (λ x. left x (memory_of r.new.heads r.new.states r.new.trs)) c.in-Err.is) ∙ r.ensures in
    same_text (sym (bytes_one (refused_line _)) ∙ ap bytes_of (ran_refused (lent_with a.m1.now a.m2.now a.allowed1.now a.allowed2.now a.ignored.now a.listed) (session_means a.session) (memory_of a.heads.now a.states.now a.trs.now) _ e _ refl)) (rw c.from.ensures at c.put_refused.ensures.written)
