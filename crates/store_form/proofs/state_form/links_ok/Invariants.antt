-- What was seen of the records before this one, with those from here on, gives what all records give.
use mathlib.Core.Path.{◌≡◌}
use mathlib.Core.Bool.{Bool, ◌&&◌}
use mathlib.Core.List.{List}
use Prim.Native.Nat.{ℕ, ◌-◌}
use Rattle.lists.specs.Lists.{every, interval}
use Rattle.calls.specs.Store.{next_at}
use lib.Dec.{leb}
use Rattle.calls.specs.Forms.{expanded_ok}
use Rattle.store_records.specs.Meaning.{stored}
use Rattle.store_form.proofs.state_form.links_ok.Given as goal

-- the test of one record
abbrev pub Good : List ℕ → List ℕ → List ℕ → ℕ → ℕ → ℕ → Bool
Good heads states trs u last n = expanded_ok (stored heads states trs u last) n && leb (next_at states n) n

abbrev pub invariant-loop-n : goal.invariant-loop-n
invariant-loop-n l =
    (heads trs : List ℕ) (u : ℕ) → l.fine && every (Good heads l.states trs u l.last) (interval l.n (l.count - l.n)) ≡ every (Good heads l.states trs u l.last) (interval 0 l.count)
