-- Demand 3a: "No reading is lost, doubled or altered: an expanded state's list, or a final weight, once given is given again by every later call for it."
use Rattle.std.specs.Prelude.{◌≡◌, List, [], ◌∷◌, ℕ, Option}
use Rattle.words.specs.Labels.{good}
use Rattle.words.specs.Settings.{Lent}
use Rattle.calls.specs.Checks.{Session}
use Rattle.calls.specs.Sequences.{World, Call, refusal, accepted, part, weight, Reply, answered, handed, call_of, after}
use Rattle.readings.specs.Worlds.{expand_in, final_in, handed_in, Expanded, part_in, words_in}

-- w is a world of the list, v a later one
pub record Again (l : Lent) (w v : World) : Type 0 where
  -- "expand answers the first and count, and handing back the words, that the state's expansion left"; the call changes nothing
  pub list : (n : ℕ) → Expanded w n → expand_in l v n ≡ record { answer = good (part_in w n); session = v.session; memory = v.memory }
  pub words : (n : ℕ) → Expanded w n → handed_in l v n ≡ words_in w n
  -- "final weight answers the same weight"
  pub weight : (n : ℕ) (x : Option ℕ) → (final_in l w n).answer ≡ good x → (final_in l v n).answer ≡ good x

-- the reply to a call that is made after these
abbrev pub reply_after : Lent → World → List Call → Call → Reply
reply_after l w before x = (call_of l (after l w before) x).reply

-- The same on the answers of one list: the second reply gives again what the first gave. A refusal gives nothing, nor does an empty part.
abbrev pub GivesAgain : Reply → Reply → Type 0
GivesAgain (answered (refusal k) s) r = Unit {0}
GivesAgain (answered accepted s) r = (t : Session) × (r ≡ answered accepted t)
GivesAgain (answered (part p) s) r = (t : Session) × (r ≡ answered (part p) t)
GivesAgain (answered (weight x) s) r = (t : Session) × (r ≡ answered (weight x) t)
GivesAgain (handed []) r = Unit {0}
GivesAgain (handed (x ∷ xs)) r = r ≡ handed (x ∷ xs)
