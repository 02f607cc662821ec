-- Demands 3 and 2b. Demand 3: one claim about whole lists of calls, on slices and sessions, over the definitions that the calls' contracts cite. Its parts stand in Worlds and
-- Answers (scope), Again (3a), Larger (3b), StorePaths and LentPaths (3c); each quotes the demand or document 01.
use Rattle.std.specs.Prelude.{◌≡◌, ◌≢◌, ◌↔◌, ℕ, ◌≤◌}
use mathlib.Core.List.{List, ◌∷◌, ◌++◌, Memᴰ}
use Rattle.papers.specs.Weight.{semiring}
use Rattle.papers.specs.Composition.{Triple, Start}
use Rattle.words.specs.Labels.{good, refused}
use Rattle.words.specs.Steps.{Composition}
use Rattle.words.specs.Sides.{Side}
use Rattle.words.specs.Filters.{papers_filter_of}
use Rattle.words.specs.Settings.{Settings, Lent, composition_of}
use Rattle.words.specs.AsPapers.{exact, composed_of}
use Rattle.words.specs.Links.{FinalExactly}
use Rattle.calls.specs.Store.{Memory, Part}
use Rattle.calls.specs.Checks.{Session, side_for}
use Rattle.calls.specs.Calls.{open_of}
use Rattle.calls.specs.Sequences.{World, Call, refusal, Reply, answered, replies, after}
use Rattle.readings.specs.Readings.{filtered_by, SamePaths}
use Rattle.readings.specs.Listed.{pick_of}
use Rattle.readings.specs.Worlds.{world_of, expand_in, final_in, OpeningsRefused, UsedState, Expanded, state_at, part_in, Sound}
use Rattle.readings.specs.Answers.{ExpandedBy, Answers}
use Rattle.readings.specs.Again.{Again, reply_after, GivesAgain}
use Rattle.readings.specs.Larger.{NoShorter, Larger}
use Rattle.readings.specs.StorePaths.{AllRead, Settled, Finished, Paths}
use Rattle.readings.specs.LentPaths.{LentPaths}
use Rattle.readings.specs.Follows.{PapersList, RefusedFor, PapersPaths, ByWords}

-- The claim about one list of calls, from the world w that an opening with the settings s in the memory m left; c is the composition that it fixed.
pub record Demand3 (s : Settings) (l : Lent) (m : Memory) (c : Composition) (w : World) (cs : List Call) : Type 0 where
  -- at every point of the list: what the records say, what the next call answers, and which states are expanded
  pub sound : (before later : List Call) → before ++ later ≡ cs → Sound l c (after l w before)
  pub answers : (before later : List Call) → before ++ later ≡ cs → Answers l c (after l w before)
  pub expanded : (before later : List Call) → before ++ later ≡ cs → (n : ℕ) → Expanded (after l w before) n ↔ ExpandedBy l w before n
  -- 8 is never answered
  pub eight : (r : Reply) → Memᴰ r (replies l w cs) → (t : Session) → r ≢ answered (refusal 8) t
  -- 3a, between any two points of the list, and between any two answers to one call
  pub again : (before middle later : List Call) → before ++ (middle ++ later) ≡ cs → Again l (after l w before) (after l w (before ++ middle))
  pub given : (before middle later : List Call) (x : Call) → before ++ (x ∷ (middle ++ (x ∷ later))) ≡ cs
      → GivesAgain (reply_after l w before x) (reply_after l w (before ++ (x ∷ middle)) x)
  -- 3b
  pub larger : (got : Session) (big : Memory) → NoShorter m big → Larger s l w cs got big
  -- 3c
  pub paths : Finished s l c (after l w cs) → Paths l c (pick_of s.filter) (after l w cs)
  -- 3c on the machines as lent: "Readings agree when their inner labels do after replacement" (02, 2.7). With an empty list both say the same.
  pub lent_paths : Finished s l c (after l w cs) → LentPaths s l c (pick_of s.filter) (after l w cs)

-- 3s: "For every list of calls after one accepted opening .. whatever memory held before that opening". The side is the one that the rule gives.
abbrev pub Claim : Type 0
Claim = (s : Settings) (l : Lent) (got : Session) (m : Memory) → (open_of s l got m).answer ≡ good tt
    → (side : Side) × (side_for s l ≡ good side)
    × ((cs : List Call) → OpeningsRefused l (world_of (open_of s l got m)) cs → Demand3 s l m (composition_of s l side) (world_of (open_of s l got m)) cs)

-- Demand 2b: the claim about the world w that a list of calls leads to; c is the composition that the opening with the settings s fixed.
pub record Demand2 (s : Settings) (l : Lent) (c : Composition) (w : World) : Type 0 where
  -- state 0 is the papers' start, and is found just where there is one
  pub start : (t : Triple) → Start (composed_of c) t ↔ (UsedState w 0 × (state_at w 0 ≡ t))
  -- the list of an expanded state, whichever call expanded it
  pub lists : (n : ℕ) → Expanded w n → PapersList c w n (part_in w n)
  -- the list that an accepted expansion answers
  pub answers : (n : ℕ) (p : Part) → (expand_in l w n).answer ≡ good p → PapersList c (world_of (expand_in l w n)) n p
  -- why one is refused
  pub refusals : (n k : ℕ) → UsedState w n → k ≢ 13 → (expand_in l w n).answer ≡ refused k → RefusedFor c w n k
  -- the final weight that is answered for a found state
  pub finals : (n : ℕ) → UsedState w n → FinalExactly c (state_at w n) (final_in l w n).answer
  -- the accepting paths, once all found states are expanded and no final weight would be refused
  pub paths : AllRead l w → PapersPaths l c w
  -- document 01's filter, which looks at "none" and "all", leaves the accepting paths that the papers' own leaves
  pub filters : SamePaths (semiring c.kind) (exact c.kind) (composed_of c) (filtered_by (papers_filter_of s.filter) (composed_of c))
  -- with no sigma label set and a filter of at most 2, the weight of every pair of words
  pub words : s.filter ≤ 2 → Settled s l w → (x y : List ℕ) → ByWords l c (pick_of s.filter) w x y

-- P holds of the world that each list of calls leads to that demand 3 speaks of, and of the composition that the opening fixed
abbrev pub AfterCalls : (Settings → Lent → Composition → World → Type 0) → Type 0
AfterCalls P = (s : Settings) (l : Lent) (got : Session) (m : Memory) → (open_of s l got m).answer ≡ good tt
    → (side : Side) × (side_for s l ≡ good side)
    × ((cs : List Call) → OpeningsRefused l (world_of (open_of s l got m)) cs → P s l (composition_of s l side) (after l (world_of (open_of s l got m)) cs))

-- 2b, whole
abbrev pub Claim2 : Type 0
Claim2 = AfterCalls Demand2
