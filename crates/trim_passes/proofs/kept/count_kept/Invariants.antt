use Prim.Native.Nat.{ℕ, ◌+◌, ◌*◌, ◌≤◌}
use mathlib.Core.Path.{◌≡◌}
use mathlib.Core.List.{List}
use Rattle.words.specs.Steps.{Composition}
use Rattle.machine_words.specs.MachineWords.{trs_in}
use Rattle.store_records.specs.Meaning.{store_in}
use Rattle.trim_passes.specs.Passes.{rows_from}
use Rattle.trim_passes.proofs.kept.count_kept.Given as goal

abbrev pub invariant-loop-n : goal.invariant-loop-n
invariant-loop-n l =
    (l.total ≤ 16777216 * l.n)
    × ((heads : List ℕ) (k : Composition) → l.total + trs_in (rows_from k (store_in heads l.states l.trs l.used) l.work l.n) ≡ trs_in (rows_from k (store_in heads l.states l.trs l.used) l.work 0))
