use mathlib.Core.Path.{◌≡◌}
use mathlib.Core.List.{List, []}
use Prim.Native.Nat.{ℕ, ◌+◌}
use lib.ListN.{length}
use Rattle.store_records.specs.Meaning.{stored}
use Rattle.trim_passes.specs.Passes.{kept_from, kept_at}
use Rattle.trim_passes.proofs.kept.count_list.Given as goal

abbrev pub invariant-loop-r : goal.invariant-loop-r
invariant-loop-r l = (heads states : List ℕ) (u : ℕ) → l.count + length (kept_at (stored heads states l.trs u l.used) l.work l.r) ≡ length (kept_from (stored heads states l.trs u l.used) l.work l.from)

abbrev pub decreases-loop-r : goal.decreases-loop-r
decreases-loop-r l = length (kept_at (stored [] [] l.trs 0 l.used) l.work l.r)
