use mathlib.Core.Path.{◌≡◌}
use mathlib.Core.List.{List, []}
use Prim.Native.Nat.{ℕ}
use lib.ListN.{length}
use Rattle.store_records.specs.Meaning.{stored}
use Rattle.searches.specs.StoreLinks.{list_from}
use Rattle.trim_passes.specs.Passes.{kept_from}
use Rattle.trim_passes.proofs.kept.next_kept.Given as goal

abbrev pub invariant-loop-r : goal.invariant-loop-r
invariant-loop-r l = (heads states : List ℕ) (u : ℕ) → kept_from (stored heads states l.trs u l.used) l.work l.r ≡ kept_from (stored heads states l.trs u l.used) l.work l.from

abbrev pub decreases-loop-r : goal.decreases-loop-r
decreases-loop-r l = length (list_from (stored [] [] l.trs 0 l.used) l.r)
