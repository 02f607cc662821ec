-- Steps stored one by one, each linked to a next one, and the last link ended after them. No check stands between: `Fits` says that none would refuse.
use Rattle.std.specs.Prelude.{◌≡◌, true, cond, List, [], ◌∷◌, ℕ, ◌-◌, ◌*◌, ◌<◌, eqb, Option, None, Some}
use Rattle.lists.specs.Lists.{put}
use Rattle.words.specs.Labels.{Checked, good, refused}
use Rattle.words.specs.Steps.{Triple, Step}
use Rattle.calls.specs.Store.{Store, tr_size, state_room, tr_room, find, add, append}
use Rattle.calls.specs.Calls.{Reached, next_for}

-- a value, and no refusal
abbrev pub Accepted : {A : Type 0} → Checked A → Type 0
Accepted (good a) = Unit {0}
Accepted (refused n) = ⊥

-- no refusal stands in the list, and P holds of each value
abbrev pub All : {A : Type 0} → (A → Type 0) → List (Checked A) → Type 0
All P [] = Unit {0}
All P (good a ∷ l) = P a × All P l
All P (refused n ∷ l) = ⊥

-- no step is a refusal
abbrev pub AllGood : List (Checked Step) → Type 0
AllGood steps = All (λ st. Unit {0}) steps

-- the state found, or a new one
abbrev pub found_or : Store → Triple → Option ℕ → Reached
found_or d t (Some n) = record { store = d; state = n }
found_or d t None = record { store = add d t; state = d.used.states }

-- the state of a triple, found or new
unfoldable pub place : Store → Triple → Reached
place d t = found_or d t (find d t)

-- a step's transition, with the link `next`
abbrev pub store_linked : Store → Step → ℕ → Store
store_linked d st next = append (place d st.to).store st (place d st.to).state next

-- the same, linked to the record after it
unfoldable pub store_one : Store → Step → Store
store_one d st = store_linked d st (next_for d true)

-- a refusal stores nothing
abbrev pub store_good : Store → Checked Step → Store
store_good d (good st) = store_one d st
store_good d (refused n) = d

-- all steps of a list in their order
unfoldable pub store_all : Store → List (Checked Step) → Store
store_all d [] = d
store_all d (st ∷ others) = store_all (store_good d st) others

-- the link of the last used transition, its last word, becomes 0
unfoldable pub end_link : Store → Store
end_link d = record {
  memory = record { heads = d.memory.heads; states = d.memory.states; trs = put d.memory.trs (tr_size * d.used.trs - 1) (0 ∷ []) };
  used = d.used;
}

-- the same where any was stored since `before` transitions were used
abbrev pub end_from : ℕ → Store → Store
end_from before d = cond (eqb d.used.trs before) d (end_link d)

-- there is a record for each thing that a step writes
pub record Room (d : Store) (st : Step) : Type 0 where
  pub tr : d.used.trs < tr_room d.memory
  pub state : find d st.to ≡ None → d.used.states < state_room d.memory

-- no step is a refusal, and each has its records when it comes
abbrev pub Fits : Store → List (Checked Step) → Type 0
Fits d [] = Unit {0}
Fits d (good st ∷ others) = Room d st × Fits (store_one d st) others
Fits d (refused n ∷ others) = ⊥
