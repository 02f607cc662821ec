-- A store whose chains stay within its used state records, which have room. It is a part of what form says, and all that a walk along a chain relies on.
use Rattle.std.specs.Prelude.{ℕ, ◌≤◌, ◌<◌, get_or}
use Rattle.calls.specs.Store.{Store, state_room, next_at}

pub record Chained (d : Store) : Type 0 where
  pub fit : d.used.states ≤ state_room d.memory
  pub head : (h : ℕ) → get_or d.memory.heads h 0 ≤ d.used.states
  pub next : (n : ℕ) → n < d.used.states → next_at d.memory.states n ≤ n
