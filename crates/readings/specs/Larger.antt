-- Demand 3b: "Larger memory (no slice shorter) yields the same answer to every call before the smaller one's first no-room refusal."
use Rattle.std.specs.Prelude.{◌≡◌, List, [], ◌∷◌, ◌⊎◌, ◌≤◌, length}
use Rattle.words.specs.Labels.{good}
use Rattle.words.specs.Settings.{Settings, Lent}
use Rattle.calls.specs.Store.{Memory}
use Rattle.calls.specs.Checks.{Session}
use Rattle.calls.specs.Calls.{open_of}
use Rattle.calls.specs.Sequences.{World, Call, refusal, Reply, answered, replies}
use Rattle.readings.specs.Worlds.{world_of}

-- "Larger memory (no slice shorter)"
pub record NoShorter (m big : Memory) : Type 0 where
  pub heads : length m.heads ≤ length big.heads
  pub states : length m.states ≤ length big.states
  pub trs : length m.trs ≤ length big.trs

abbrev pub NoRoom : Reply → Type 0
NoRoom r = (s : Session) × (r ≡ answered (refusal 13) s)

-- "the same answer to every call before the smaller one's first no-room refusal"
abbrev pub SameUntil : List Reply → List Reply → Type 0
SameUntil [] [] = Unit {0}
SameUntil [] (q ∷ qs) = ⊥
SameUntil (r ∷ rs) [] = ⊥
SameUntil (r ∷ rs) (q ∷ qs) = NoRoom r ⊎ ((r ≡ q) × SameUntil rs qs)

-- its content is arbitrary: the opening is accepted there too, hands back the same session, and the calls answer the same
pub record Larger (s : Settings) (l : Lent) (w : World) (cs : List Call) (got : Session) (big : Memory) : Type 0 where
  pub accepted : (open_of s l got big).answer ≡ good tt
  pub session : (open_of s l got big).session ≡ w.session
  pub same : SameUntil (replies l w cs) (replies l (world_of (open_of s l got big)) cs)
