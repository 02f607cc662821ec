-- What `put_trs`'s loop keeps: the lines from record i on, put from here, are all lines put from the start.
use Prim.Native.Nat.{◌+◌, ◌-◌, ◌*◌, ◌≤◌}
use Rattle.listing.proofs.LineLaws.{Rest, tr_lines_from}
use Rattle.listing.proofs.lines.put_trs.Given as goal

abbrev pub invariant-loop-i : goal.invariant-loop-i
invariant-loop-i l = record {
  near : l.at + 64 * (l.i-end - l.i) ≤ l.to + 64 * l.i-end;
  rest : Rest l.initial.out l.to (tr_lines_from l.records 0 l.i-end) l.out l.at (tr_lines_from l.records l.i l.i-end);
}
