use mathlib.Core.Path.{◌≡◌}
use Rattle.trim_call.proofs.JudgedLaws.{rest_expanded}
use Rattle.trim_call.proofs.judged.all_expanded.Given as goal

abbrev pub invariant-loop-n : goal.invariant-loop-n
invariant-loop-n l = rest_expanded l.states l.count l.n ≡ rest_expanded l.states l.count 0
