-- One step stored: its state is placed, its transition is linked to a next one, and the last link may be ended.
use mathlib.Core.Path.{◌≡◌, ap}
use mathlib.Core.List.{List}
use Prim.Native.Nat.{ℕ, ◌+◌, ◌-◌, ◌*◌}
use lib.ListN.{set}
use borrow.Author.Tests.{ne_eqb}
use Rattle.lists.specs.Lists.{put}
use Rattle.words.specs.Steps.{Step}
use Rattle.calls.specs.Store.{Store, tr_size, append}
use Rattle.calls.specs.Calls.{Reached}
use Rattle.store_records.specs.Meaning.{stored}
use Rattle.stored_steps.specs.Storing.{place, store_one, end_link, end_from}

-- the transition after its state
pub one_is : (d : Store) (st : Step) (r : Reached) → r ≡ place d st.to → append r.store st r.state (d.used.trs + 2) ≡ store_one d st
unfolding store_one
one_is d st r e = ap (λ (q : Reached). append q.store st q.state (d.used.trs + 2)) e

-- the last link
pub end_some : (heads states trs last : List ℕ) (before n after : ℕ) → (after ≡ before → ⊥) → last ≡ set trs (tr_size * after - 1) 0
    → stored heads states last n after ≡ end_from before (stored heads states trs n after)
unfolding end_link put
end_some heads states trs last before n after h e = rw (ne_eqb after before h) (ap (λ (l : List ℕ). stored heads states l n after) e)
