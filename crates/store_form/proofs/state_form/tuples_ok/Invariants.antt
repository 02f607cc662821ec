-- What is left from here on gives what all records give; at an exit the record in hand fails.
use mathlib.Core.Path.{◌≡◌}
use Prim.Native.Nat.{◌-◌}
use Rattle.lists.specs.Lists.{every, interval}
use Rattle.calls.specs.Forms.{triple_ok}
use Rattle.store_form.proofs.state_form.tuples_ok.Given as goal

abbrev pub invariant-loop-n : goal.invariant-loop-n
invariant-loop-n l = every (triple_ok l.s1 l.s2 l.states) (interval l.n (l.count - l.n)) ≡ every (triple_ok l.s1 l.s2 l.states) (interval 0 l.count)
