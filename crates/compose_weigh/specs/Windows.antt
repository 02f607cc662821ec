-- The new states of some steps, counted in a set: the steps go window by window, each as long as the set has room.
use Rattle.std.specs.Prelude.{◌≡◌, Bool, not, ◌&&◌, cond, List, [], ◌∷◌, ℕ, zero, suc, ◌+◌, ◌≤◌}
use Rattle.words.specs.Labels.{Checked, good, refused}
use Rattle.words.specs.Steps.{Triple, Step}
use Rattle.calls.specs.Store.{Store, state_room, same_triple}
use Rattle.triple_set.specs.Sets.{Headed, holds}
use Rattle.compose_weigh.specs.Weigh.{reached_within}

-- the most triples of a set
abbrev pub set_room : ℕ
set_room = 2048

-- how many triples with P the first k steps go to, each counted once; nothing after a refusal counts
unfoldable pub new_within : (Triple → Bool) → ℕ → List (Checked Step) → ℕ
new_within P zero steps = 0
new_within P (suc k) [] = 0
new_within P (suc k) (refused n ∷ others) = 0
new_within P (suc k) (good s ∷ others) = cond (P s.to) 1 0 + new_within (λ t. P t && not (same_triple s.to t)) k others

-- the steps `rest` come after the first i of `all`, and none of those is a refusal
abbrev pub Ahead : ℕ → List (Checked Step) → List (Checked Step) → Type 0
Ahead zero all rest = all ≡ rest
Ahead (suc i) [] rest = ⊥
Ahead (suc i) (refused n ∷ all) rest = ⊥
Ahead (suc i) (good s ∷ all) rest = Ahead i all rest

-- the set d with room for `room` triples holds those with P that the first k steps go to, each once
pub record Filled (P : Triple → Bool) (k : ℕ) (steps : List (Checked Step)) (room : ℕ) (d : Store) : Type 0 where
  pub chained : Headed d
  pub holding : (t : Triple) → holds d t ≡ (P t && reached_within t k steps)
  pub number : d.used.states ≡ new_within P k steps
  pub fits : d.used.states ≤ room
  pub room_kept : state_room d.memory ≡ room
