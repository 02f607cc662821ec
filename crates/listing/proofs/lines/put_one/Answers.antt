-- The state's own line, then its records.
use mathlib.Core.Path.{◌≡◌, ap}
use mathlib.Core.List.{List}
use Prim.Native.Nat.{ℕ, ◌/◌}
use native.Mathlib.Omega.{arith}
use lib.ListN.{length}
use borrow.Author.Rules.{rules}
use Rattle.calls.specs.Store.{tr_size}
use Rattle.calls.specs.Calls.{records_of}
use Rattle.store_records.specs.Meaning.{memory_of}
use Rattle.lazy_fst.specs.Meaning.{lent_with, session_means}
use Rattle.listing_write.proofs.WrittenLaws.{then, same_text}
use Rattle.listing.proofs.LinesFit.{tr_lines_length}
use Rattle.listing.proofs.StageLaws.{one_state}
use Rattle.listing.proofs.lines.put_one.Goals as goal

pub put_trs-requires : goal.put_trs-requires
put_trs-requires c =
    let a = c.args in
    let w = c.put_weighed-at in
    let e = ap (λ (x : List ℕ). length x / tr_size) c.trusted_records-records.ensures.result_value in
    let t = tr_lines_length (records_of (lent_with a.m1.now a.m2.now a.allowed1.now a.allowed2.now a.ignored.now a.listed) (session_means a.session) (memory_of a.heads.now a.states.now a.trs.now) a.n.0) in
    let s : length w.new.out ≡ length a.out.now = search rules in
    omega (arith, c.requires.fact, w.ensures.near, e, t, s)

pub returns : goal.returns
returns c =
    let a = c.args in
    let w = c.put_weighed-at in
    let v = c.put_trs in
    let r = c.trusted_records-records.ensures.result_value in
    let l = lent_with a.m1.now a.m2.now a.allowed1.now a.allowed2.now a.ignored.now a.listed in
    let s = session_means a.session in
    let m = memory_of a.heads.now a.states.now a.trs.now in
    let e = ap (λ (x : List ℕ). length x / tr_size) r in
    let t = tr_lines_length (records_of l s m a.n.0) in
    record {
      fact_2 = same_text (one_state l s m a.n.0 _ _ _ c.get_tuple.ensures c.trusted_final_weight-weight.ensures r) (then (w.ensures.written m) v.ensures.written);
      near = omega (arith, w.ensures.near, v.ensures.near, e, t);
    }
