-- A line for each record.
use mathlib.Core.Path.{◌≡◌, ap}
use mathlib.Core.List.{[], ◌∷◌}
use Prim.Native.Nat.{◌+◌, ◌/◌}
use native.Mathlib.Omega.{arith}
use lib.ListN.{length}
use borrow.Author.Rules.{rules}
use Rattle.calls.specs.Store.{tr_size}
use Rattle.fst.specs.Meaning.{tr_means}
use Rattle.listing_text.specs.Printing.{bytes_of}
use Rattle.listing_write.proofs.WrittenLaws.{same_text}
use Rattle.listing.proofs.LineLaws.{rest_on, rest_done, tr_line_at, tr_lines_from, trs_turn, trs_done, trs_all, tr_line_bytes}
use Rattle.listing.proofs.lines.put_trs.Goals as goal

pub loop-i-init : goal.loop-i-init
loop-i-init c = record { near = omega arith; rest = λ o r v. v }

pub put_tr-at-requires : goal.put_tr-at-requires
put_tr-at-requires c =
    let s : length c.loop-i.out ≡ length c.args.out.now = search rules in
    omega (arith, c.requires, c.loop-i-test.true, c.loop-i.invariant.near, s)

pub loop-i-preserved : goal.loop-i-preserved
loop-i-preserved c =
    let records = c.args.records.now in
    let p = c.loop-i in
    let k = length records / tr_size in
    let t = c.loop-i-test.true in
    let w = c.put_tr-at.ensures in
    record {
      near = omega (arith, t, w.near, p.invariant.near);
      rest = rest_on (tr_lines_from records 0 k) (tr_lines_from records p.i k) (tr_line_at records p.i ∷ []) (tr_lines_from records (p.i + 1) k) p.invariant.rest (trs_turn records p.i k t)
          (same_text (tr_line_bytes records p.i (tr_means c.stored_tr-tr.result) c.stored_tr-tr.ensures) w.written);
    }

pub returns : goal.returns
returns c =
    let records = c.args.records.now in
    let p = c.loop-i in
    let k = length records / tr_size in
    record {
      written = same_text (ap bytes_of (trs_all records)) (rest_done (tr_lines_from records 0 k) (tr_lines_from records p.i k) p.invariant.rest (trs_done records p.i k c.loop-i-test.false));
      near = omega (arith, p.invariant.near);
    }
