-- What was seen of the records before this one, with those from here on, gives what all records give.
use mathlib.Core.Path.{◌≡◌}
use mathlib.Core.Bool.{Bool, ◌&&◌, ◌||◌}
use mathlib.Core.List.{List}
use Prim.Native.Nat.{ℕ, ◌+◌, ◌-◌}
use Rattle.lists.specs.Lists.{every, interval}
use Rattle.calls.specs.Store.{target_at, tr_next_at}
use lib.Dec.{eqb, ltb}
use Rattle.store_form.proofs.tr_form.all_linked.Given as goal

-- the test of one record
abbrev pub Good : List ℕ → ℕ → ℕ → Bool
Good trs states i = ltb (target_at trs i) states && (eqb (tr_next_at trs i) 0 || eqb (tr_next_at trs i) (i + 2))

abbrev pub invariant-loop-i : goal.invariant-loop-i
invariant-loop-i l = l.fine && every (Good l.trs l.used.states) (interval l.i (l.used.trs - l.i)) ≡ every (Good l.trs l.used.states) (interval 0 l.used.trs)
