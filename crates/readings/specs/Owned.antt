-- A caller that owns its memory: calls that do not check, runs in pieces and copies into longer slices lead from a world of demand 3 to such a world again, so that both demands speak
-- of all that such a caller meets.
use Rattle.std.specs.Prelude.{◌≡◌, List, map, ◌⊎◌, ℕ, ◌+◌, ◌-◌, ◌≤◌, ◌<◌, length, Option}
use Rattle.lists.specs.Lists.{At, interval}
use Rattle.words.specs.Labels.{good, refused}
use Rattle.words.specs.Sides.{Side}
use Rattle.words.specs.Settings.{Settings, Lent, composition_of}
use Rattle.calls.specs.Store.{Memory, state_room}
use Rattle.calls.specs.Checks.{Session, side_for, Passes}
use Rattle.calls.specs.Calls.{Outcome, open_of, run_from}
use Rattle.calls.specs.Sequences.{World, Call, expand, replies, after}
use Rattle.calls.specs.Owned.{stop_from, final_weights_of, lengthened}
use Rattle.readings.specs.Listed.{pick_of}
use Rattle.readings.specs.Worlds.{world_of, expand_in, final_in, run_in, Accepted, OpeningsRefused, UsedState, Sound}
use Rattle.readings.specs.Answers.{Answers}
use Rattle.readings.specs.Again.{Again}
use Rattle.readings.specs.Larger.{SameUntil}
use Rattle.readings.specs.StorePaths.{Finished, Paths}
use Rattle.readings.specs.Demands.{Demand2}
use Rattle.readings.specs.Further.{Further}

-- Demand 3's scope, "For every list of calls after one accepted opening": w is a world to which such a list leads.
pub record InScope (s : Settings) (l : Lent) (w : World) : Type 0 where
  pub got : Session
  pub memory : Memory
  pub opens : (open_of s l got memory).answer ≡ good tt
  pub calls : List Call
  pub refuses : OpeningsRefused l (world_of (open_of s l got memory)) calls
  pub leads : after l (world_of (open_of s l got memory)) calls ≡ w

-- a piece of a run, from state n on, at most k states; and the state with which the next piece goes on
abbrev pub piece_in : Lent → World → ℕ → ℕ → Outcome (Unit {0})
piece_in l w n k = run_from l k n w.session w.memory

abbrev pub next_in : Lent → World → ℕ → ℕ → ℕ
next_in l w n k = stop_from l k n w.session w.memory

-- the world after the calls that expand n and the states after it, one by one, before state j
abbrev pub up_to : Lent → World → ℕ → ℕ → World
up_to l w n j = after l w (map expand (interval n (j - n)))

-- A piece is the list of the expansions from n on, before the state with which the next one goes on: no more and no less.
pub record PieceIs (l : Lent) (w : World) (n k : ℕ) : Type 0 where
  pub from : n ≤ next_in l w n k
  pub most : next_in l w n k ≤ n + k
  pub passes : (j : ℕ) → n ≤ j → j < next_in l w n k → Accepted (expand_in l (up_to l w n j) j)
  pub leaves : world_of (piece_in l w n k) ≡ up_to l w n (next_in l w n k)
  -- accepted: k states are passed, or none is left
  pub ends : Accepted (piece_in l w n k) → (next_in l w n k ≡ n + k) ⊎ ((world_of (piece_in l w n k)).session.used.states ≤ next_in l w n k)
  -- refused: the next state is found, and its expansion is refused by that number
  pub stops : (j : ℕ) → (piece_in l w n k).answer ≡ refused j
      → UsedState (world_of (piece_in l w n k)) (next_in l w n k) × ((expand_in l (world_of (piece_in l w n k)) (next_in l w n k)).answer ≡ refused j)

-- All final weights in one go are those that the calls give state by state; refused, by 12, at the first that is too large.
pub record WeightsAre (l : Lent) (w : World) : Type 0 where
  pub each : (ws : List (Option ℕ)) → final_weights_of l w.session w.memory ≡ good ws
      → (length ws ≡ w.session.used.states) × ((n : ℕ) (x : Option ℕ) → At ws n x → (final_in l w n).answer ≡ good x)
  pub stops : (k : ℕ) → final_weights_of l w.session w.memory ≡ refused k
      → (k ≡ 12) × ((n : ℕ) × UsedState w n × ((final_in l w n).answer ≡ refused 12) × ((j : ℕ) → j < n → Accepted (final_in l w j)))

-- the world after a copy into longer slices
abbrev pub grown_by : List ℕ → List ℕ → World → World
grown_by xs ys w = record { session = w.session; memory = lengthened xs ys w.memory }

-- u is a world to which such a caller comes from w: by lists of calls, pieces of runs and copies, in any order and as often as it likes.
pub data Later (l : Lent) (u : World) : World → Type 0 where
  at_once : (w : World) → w ≡ u → Later l u w
  by_calls : (w : World) (cs : List Call) → OpeningsRefused l w cs → Later l u (after l w cs) → Later l u w
  by_piece : (w : World) (n k : ℕ) → Later l u (world_of (piece_in l w n k)) → Later l u w
  by_copy : (w : World) (xs ys : List ℕ) → Later l u (grown_by xs ys w) → Later l u w

-- What a caller that owns its memory may do in a world of demand 3.
pub record Owns (s : Settings) (l : Lent) (w : World) : Type 0 where
  -- the checks 1 to 8 pass: it may call what does not check
  pub passes : Passes l w.session w.memory
  -- whatever it does then, it comes to such a world again, and what was given before is given again there
  pub later : (u : World) → Later l u w → InScope s l u × Again l w u
  -- a piece of a run is a list of expansions
  pub piece : (n k : ℕ) → PieceIs l w n k
  -- a run is a piece, of as many states as there is room for or more; and a piece after an accepted piece goes on as one piece would have
  pub whole : (k : ℕ) → state_room w.memory ≤ k → run_in l w ≡ piece_in l w 0 k
  pub joins : (n j k : ℕ) → Accepted (piece_in l w n j)
      → let v = world_of (piece_in l w n j) in
      let i = next_in l w n j in
      (piece_in l w n (j + k) ≡ piece_in l v i k) × (next_in l w n (j + k) ≡ next_in l v i k)
  -- all final weights in one go
  pub weights : WeightsAre l w
  -- after a copy into longer slices every call answers as it would have, up to the first that would have been refused for lack of room
  pub same : (xs ys : List ℕ) (cs : List Call) → OpeningsRefused l w cs → SameUntil (replies l w cs) (replies l (grown_by xs ys w) cs)

abbrev pub OwnedClaim : Type 0
OwnedClaim = (s : Settings) (l : Lent) (w : World) → InScope s l w → Owns s l w

-- What both demands say of such a world by itself, whichever list led there, in pieces and copies too.
pub record Meets (s : Settings) (l : Lent) (w : World) : Type 0 where
  -- the side that the rule gives, and with it the composition
  pub side : Side
  pub rule : side_for s l ≡ good side
  -- demand 3: what the records say, and what the next call answers
  pub sound : Sound l (composition_of s l side) w
  pub answers : Answers l (composition_of s l side) w
  -- 3c: the accepting paths, with no sigma label set, or one on machine 2 alone (`SigmaOn2AtMost`), and a filter of at most 2, once all found states are expanded and no final weight would be refused
  pub paths : Finished s l (composition_of s l side) w → Paths l (composition_of s l side) (pick_of s.filter) w
  -- demand 2b: what the papers say
  pub papers : Demand2 s l (composition_of s l side) w
  -- 02, 2.1: null, trivial and no-match
  pub further : Further s l (composition_of s l side) w
