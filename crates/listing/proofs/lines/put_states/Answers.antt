-- The lines of each state.
use mathlib.Core.Path.{◌≡◌, ap}
use Prim.Native.Nat.{◌+◌, ◌-◌}
use native.Mathlib.Omega.{arith}
use lib.ListN.{length}
use borrow.Author.Rules.{rules}
use Rattle.store_records.specs.Meaning.{memory_of}
use Rattle.lazy_fst.specs.Meaning.{lent_with, session_means}
use Rattle.listing_text.specs.Printing.{bytes_of}
use Rattle.listing_write.proofs.WrittenLaws.{same_text}
use Rattle.listing.specs.Stages.{lines_at, lines_from}
use Rattle.listing.proofs.LineLaws.{rest_on, rest_done, states_start, states_turn, states_done, states_length}
use Rattle.listing.proofs.lines.put_states.Goals as goal

pub loop-n-init : goal.loop-n-init
loop-n-init c =
    let a = c.args in
    let e = states_start (lent_with a.m1.now a.m2.now a.allowed1.now a.allowed2.now a.ignored.now a.listed) (session_means a.session) (memory_of a.heads.now a.states.now a.trs.now) a.session.used.states in
    record { near = omega (arith, ap length e); rest = λ o r v. same_text (ap bytes_of e) v }

pub put_one-at-requires : goal.put_one-at-requires
put_one-at-requires c =
    let a = c.args in
    let p = c.loop-n in
    let t = states_length (lent_with a.m1.now a.m2.now a.allowed1.now a.allowed2.now a.ignored.now a.listed) (session_means a.session) (memory_of a.heads.now a.states.now a.trs.now) p.n a.session.used.states c.loop-n-test.true in
    let s : length p.out ≡ length a.out.now = search rules in
    record { fact = omega (arith, c.requires.fact, t, p.invariant.near, s); passes = c.requires.passes }

pub loop-n-preserved : goal.loop-n-preserved
loop-n-preserved c =
    let a = c.args in
    let p = c.loop-n in
    let k = a.session.used.states in
    let h = c.loop-n-test.true in
    let w = c.put_one-at in
    let l = lent_with a.m1.now a.m2.now a.allowed1.now a.allowed2.now a.ignored.now a.listed in
    let s = session_means a.session in
    let m = memory_of a.heads.now a.states.now a.trs.now in
    let t = states_length l s m p.n k h in
    record {
      near = omega (arith, w.ensures.near, t, p.invariant.near);
      rest = rest_on (lines_from l s m 0 k) (lines_from l s m p.n (k - p.n)) (lines_at l s m p.n) (lines_from l s m (p.n + 1) (k - (p.n + 1))) p.invariant.rest (states_turn l s m p.n k h) w.ensures.fact_2;
    }

pub returns : goal.returns
returns c =
    let a = c.args in
    let p = c.loop-n in
    let k = a.session.used.states in
    let l = lent_with a.m1.now a.m2.now a.allowed1.now a.allowed2.now a.ignored.now a.listed in
    let s = session_means a.session in
    let m = memory_of a.heads.now a.states.now a.trs.now in
    record {
      fact_2 = rest_done (lines_from l s m 0 k) (lines_from l s m p.n (k - p.n)) p.invariant.rest (states_done l s m p.n k c.loop-n-test.false);
      near = omega (arith, p.invariant.near);
    }
