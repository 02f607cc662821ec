-- What is left from here on gives what all states give; at an exit the state in hand fails.
use Prim.Native.Nat.{◌-◌}
use mathlib.Core.Path.{◌≡◌}
use mathlib.Core.Bool.{true}
use Rattle.lists.specs.Lists.{every, interval}
use Rattle.words.specs.Machines.{state_count, state_ok}
use Rattle.fst_properties.proofs.form.states_ok.Given as goal

abbrev pub invariant-states : goal.invariant-states
invariant-states l = (l.ok ≡ true) × (every (state_ok l.m) (interval l.s (l.s-end - l.s)) ≡ every (state_ok l.m) (interval 0 (state_count l.m)))
