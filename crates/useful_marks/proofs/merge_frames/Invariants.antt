-- The frames from here down give the whole.
use mathlib.Core.Path.{◌≡◌}
use Rattle.searches.specs.UsefulSearch.{merged_to}
use Rattle.useful_marks.proofs.merge_frames.Given as goal

abbrev pub invariant-loop-f : goal.invariant-loop-f
invariant-loop-f l = merged_to l.work l.place l.f ≡ merged_to l.work l.place l.b
