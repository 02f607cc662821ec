-- 01, "Ids inserted before an error: first weigh and count the moves, then store.": what the weighing decides. It reads the store and changes nothing.
use Rattle.std.specs.Prelude.{Bool, true, false, not, ◌&&◌, ◌||◌, cond, List, [], ◌∷◌, ℕ, zero, suc, ◌+◌, leb, Option, None, Some}
use Rattle.words.specs.Labels.{Checked, good, refused, refuse_if, and_then}
use Rattle.words.specs.Steps.{Triple, Step}
use Rattle.calls.specs.Store.{Store, state_room, tr_room, same_triple, find}

-- one of the first i steps goes to t; nothing after a refusal counts
unfoldable pub reached_within : Triple → ℕ → List (Checked Step) → Bool
reached_within t zero steps = false
reached_within t (suc i) [] = false
reached_within t (suc i) (refused n ∷ others) = false
reached_within t (suc i) (good s ∷ others) = same_triple s.to t || reached_within t i others

-- the table lacks it
abbrev pub missing : Option ℕ → Bool
missing None = true
missing (Some n) = false

-- t needs a new state when i of all steps are stored: the table lacks it, and none of those steps went to it
unfoldable pub is_new : Store → List (Checked Step) → ℕ → Triple → Bool
is_new d all i t = missing (find d t) && not (reached_within t i all)

-- 13 where a new state's record is lacking, else the used states with it
unfoldable pub count_state : Bool → ℕ → ℕ → Checked ℕ
count_state new room u = refuse_if (new && leb room u) 13 (good (cond new (u + 1) u))

-- "in move order 11 before a walked label's matches, and 12, 13 for each kept move": the steps after the first i of all, which took the used states to u
unfoldable pub weigh_from : Store → List (Checked Step) → ℕ → ℕ → List (Checked Step) → Checked (Unit {0})
weigh_from d all i u [] = good tt
weigh_from d all i u (st ∷ others) =
    and_then st (λ s.
    refuse_if (leb (tr_room d.memory) (d.used.trs + i)) 13
    (and_then (count_state (is_new d all i s.to) (state_room d.memory) u) (λ v. weigh_from d all (i + 1) v others)))

-- the first refusal that storing the steps meets, or none
unfoldable pub weigh_of : Store → List (Checked Step) → Checked (Unit {0})
weigh_of d steps = weigh_from d steps 0 d.used.states steps
