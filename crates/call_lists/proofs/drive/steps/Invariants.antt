-- The list ends where the lines left end it.
use mathlib.Core.Path.{◌≡◌}
use Prim.Native.Nat.{◌-◌}
use Rattle.call_lists.specs.Lines.{list_end}
use Rattle.call_lists.proofs.drive.steps.Given as goal

abbrev pub invariant-loop : goal.invariant-loop
invariant-loop l = list_end l.words (1024 - l.counter) l.place ≡ list_end l.words 1024 l.initial.place
