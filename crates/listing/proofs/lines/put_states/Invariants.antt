-- What `put_states`'s loop keeps: the lines from state n on, put from here, are all lines put from the start.
use Prim.Native.Nat.{◌+◌, ◌-◌, ◌*◌, ◌≤◌}
use lib.ListN.{length}
use Rattle.store_records.specs.Meaning.{memory_of}
use Rattle.lazy_fst.specs.Meaning.{lent_with, session_means}
use Rattle.listing.specs.Stages.{lines_from}
use Rattle.listing.proofs.LineLaws.{Rest}
use Rattle.listing.proofs.lines.put_states.Given as goal

abbrev pub invariant-loop-n : goal.invariant-loop-n
invariant-loop-n l =
    let lines = lines_from (lent_with l.m1 l.m2 l.allowed1 l.allowed2 l.ignored l.listed) (session_means l.session) (memory_of l.heads l.states l.trs) in
    record {
      near : l.at + 64 * length (lines l.n (l.n-end - l.n)) ≤ l.to + 64 * length (lines 0 l.n-end);
      rest : Rest l.initial.out l.to (lines 0 l.n-end) l.out l.at (lines l.n (l.n-end - l.n));
    }
