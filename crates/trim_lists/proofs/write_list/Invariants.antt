use mathlib.Core.List.{List, []}
use Prim.Native.Nat.{ℕ}
use lib.ListN.{length}
use Rattle.store_records.specs.Meaning.{stored}
use Rattle.trim_passes.specs.Passes.{kept_at}
use Rattle.trim_lists.proofs.ListTurns.{Writing}
use Rattle.trim_lists.proofs.write_list.Given as goal

abbrev pub invariant-loop-r : goal.invariant-loop-r
invariant-loop-r l = (heads states : List ℕ) (u : ℕ) → Writing (stored heads states l.trs u l.used) l.work l.initial.out l.at l.before l.from l.out l.here l.n l.r

abbrev pub decreases-loop-r : goal.decreases-loop-r
decreases-loop-r l = length (kept_at (stored [] [] l.trs 0 l.used) l.work l.r)
