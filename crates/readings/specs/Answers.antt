-- Demand 3, scope: what the next call answers in each world of a list, and which states are expanded, by the calls made.
use Rattle.std.specs.Prelude.{◌≡◌, Bool, false, not, ◌||◌, List, [], ◌∷◌, ◌++◌, map, ◌≢◌, ◌⊎◌, ◌↔◌, ℕ, ◌+◌, ◌≤◌, ◌<◌, length, Some}
use Rattle.lists.specs.Lists.{interval, put_if}
use Rattle.papers.specs.Composition.{Triple}
use Rattle.words.specs.Labels.{Checked, good, refused}
use Rattle.words.specs.Sides.{Side}
use Rattle.words.specs.Steps.{Composition, Step, steps_at, start_at, final_at}
use Rattle.words.specs.Settings.{Settings, Lent, composition_of}
use Rattle.calls.specs.Store.{Memory, state_room, tr_room, same_triple}
use Rattle.calls.specs.Checks.{Session, side_for}
use Rattle.calls.specs.Calls.{open_of}
use Rattle.calls.specs.Sequences.{World, Call, expand, run, after}
use Rattle.readings.specs.Worlds.{world_of, expand_in, final_in, run_in, handed_in, Accepted, UsedState, Expanded, state_at}

-- "Opening checks 1 to 7" with 18 (02, 2.7), "then 13 (not if a machine lacks a start: then no state is found)", where 13 is "a record or, at opening, a head is lacking"
abbrev pub HasStart : Settings → Lent → Side → Type 0
HasStart s l side = (t : Triple) × (start_at (composition_of s l side) ≡ Some t)

pub record Opens (s : Settings) (l : Lent) (got : Session) (m : Memory) : Type 0 where
  -- accepted just where the checks 1 to 7 and 18 give a side, and a composition with a start finds a head and a state record
  pub accepts : ((open_of s l got m).answer ≡ good tt)
      ↔ ((side : Side) × (side_for s l ≡ good side) × (HasStart s l side → (0 < length m.heads) × (0 < state_room m)))
  -- refused by 13 just where one of them is lacking
  pub full : ((open_of s l got m).answer ≡ refused 13)
      ↔ ((side : Side) × (side_for s l ≡ good side) × HasStart s l side × ((length m.heads ≡ 0) ⊎ (state_room m ≡ 0)))

-- "run (expand in number order until none is left or one is refused ..)": the world in which a run expands k, those before it accepted
abbrev pub inRun : Lent → World → ℕ → World
inRun l w k = after l w (map expand (interval 0 k))

-- the expansions of the states before n, "in number order", are accepted
abbrev pub PassesBefore : Lent → World → ℕ → Type 0
PassesBefore l w n = (k : ℕ) → k < n → Accepted (expand_in l (inRun l w k) k)

-- "expanded is one whose expansion was accepted, also in a run": there is such a call among those made from the world w on
pub data ExpandedBy (l : Lent) (w : World) (made : List Call) (n : ℕ) : Type 0 where
  by_expand : (before later : List Call) → before ++ (expand n ∷ later) ≡ made → Accepted (expand_in l (after l w before) n) → ExpandedBy l w made n
  by-run : (before later : List Call) → before ++ (run ∷ later) ≡ made → PassesBefore l (after l w before) (n + 1) → ExpandedBy l w made n

-- "run (expand in number order until none is left or one is refused; each expansion before it stays)": it is the expansions before `stop`, no more and no less
pub record RunIs (l : Lent) (w : World) : Type 0 where
  pub stop : ℕ
  pub passes : PassesBefore l w stop
  pub leaves : world_of (run_in l w) ≡ inRun l w stop
  -- accepted: none is left. Refused: state `stop` is found, and its expansion is refused by that number
  pub ends : Accepted (run_in l w) → (world_of (run_in l w)).session.used.states ≡ stop
  pub stops : (k : ℕ) → (run_in l w).answer ≡ refused k → UsedState (world_of (run_in l w)) stop × ((expand_in l (world_of (run_in l w)) stop).answer ≡ refused k)

-- t is among these
unfoldable pub among : List Triple → Triple → Bool
among [] t = false
among (u ∷ us) t = same_triple u t || among us t

-- those of ts that are not known, each once
unfoldable pub newOnes : List Triple → List Triple → List Triple
newOnes known [] = []
newOnes known (t ∷ ts) = put_if (not (among known t)) t (newOnes (t ∷ known) ts)

-- "the state reached" by each of these kept moves
abbrev pub targets : List Step → List Triple
targets steps = map (λ (s : Step). s.to) steps

-- the states that these kept moves find: targets that are no used state's, each once
abbrev pub new_states : World → List Step → List Triple
new_states w steps = newOnes (map (state_at w) (interval 0 w.session.used.states)) (targets steps)

-- a transition record for each of these kept moves, and a state record for each state that they find
pub record RoomFor (w : World) (steps : List Step) : Type 0 where
  pub trs : w.session.used.trs + length steps ≤ tr_room w.memory
  pub states : w.session.used.states + length (new_states w steps) ≤ state_room w.memory

-- 13, "a record .. is lacking"
abbrev pub Lacks : World → List Step → Type 0
Lacks w steps = (tr_room w.memory < w.session.used.trs + length steps) ⊎ (state_room w.memory < w.session.used.states + length (new_states w steps))

-- "expansion of an unexpanded state then 10, then in move order 11 before a walked label's matches, and 12, 13 for each kept move. Nothing else yields them."
pub record Decides (l : Lent) (c : Composition) (w : World) (n : ℕ) : Type 0 where
  -- accepted just where no move is refused and no record is lacking
  pub accepts : Accepted (expand_in l w n) ↔ ((steps : List Step) × (steps_at c (state_at w n) ≡ map good steps) × RoomFor w steps)
  -- refused by 13 just where a record is lacking for kept moves before which no move is refused
  pub full : ((expand_in l w n).answer ≡ refused 13)
      ↔ ((steps : List Step) × (others : List (Checked Step)) × (steps_at c (state_at w n) ≡ map good steps ++ others) × Lacks w steps)
  -- and by another number just where the first move that is refused has it, and no record is lacking for those before it
  pub stops : (k : ℕ) → k ≢ 13 → ((expand_in l w n).answer ≡ refused k)
      ↔ ((steps : List Step) × (others : List (Checked Step)) × (steps_at c (state_at w n) ≡ map good steps ++ (refused k ∷ others)) × RoomFor w steps)

-- What the next call answers in every world that a list of calls leads to; for an expanded state's list see 3a.
pub record Answers (l : Lent) (c : Composition) (w : World) : Type 0 where
  -- 9 is "state not found yet"
  pub expand-nine : (n : ℕ) → ((expand_in l w n).answer ≡ refused 9) ↔ (UsedState w n → ⊥)
  pub final-nine : (n : ℕ) → ((final_in l w n).answer ≡ refused 9) ↔ (UsedState w n → ⊥)
  -- the expansion of a found state that is not expanded
  pub expands : (n : ℕ) → UsedState w n → (Expanded w n → ⊥) → Decides l c w n
  -- the final weight of a found state is document 01's
  pub finals : (n : ℕ) → UsedState w n → (final_in l w n).answer ≡ final_at c (state_at w n)
  -- "an empty part where n is not expanded"
  pub hands_none : (n : ℕ) → (Expanded w n → ⊥) → handed_in l w n ≡ []
  -- a run
  pub runs : RunIs l w
