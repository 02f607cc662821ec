-- 01, "Session and memory": lists of calls. "Each call gets the session last returned, at first the opening's, and memory as last left, refused or not".
use Rattle.std.specs.Prelude.{List, [], ◌∷◌, ℕ, Option}
use Rattle.words.specs.Labels.{Checked, good, refused}
use Rattle.words.specs.Settings.{Settings, Lent}
use Rattle.calls.specs.Store.{Memory, Part, Layout, six}
use Rattle.calls.specs.Checks.{Session}
use Rattle.calls.specs.Calls.{Outcome, open_with, expand_with, final_weight_with, run_with, records_with}

-- the session last returned, and memory as last left
pub record World : Type 0 where
  pub session : Session
  pub memory : Memory

-- an opening brings its own settings, machines and lists
pub data Call : Type 0 where
  opening : Settings → Lent → Call
  expand final_weight records : ℕ → Call
  run : Call

-- what a call says
pub data Said : Type 0 where
  refusal : ℕ → Said
  accepted : Said
  part : Part → Said
  weight : Option ℕ → Said

-- "Answers are all that is returned, words handed back too."
pub data Reply : Type 0 where
  answered : Said → Session → Reply
  handed : List ℕ → Reply

-- what a call returns, and the world after it
pub record Turn : Type 0 where
  pub reply : Reply
  pub world : World

abbrev pub said_of : {A : Type 0} → (A → Said) → Checked A → Said
said_of say (good a) = say a
said_of say (refused n) = refusal n

abbrev pub turn_of : {A : Type 0} → (A → Said) → Outcome A → Turn
turn_of say o = record { reply = answered (said_of say o.answer) o.session; world = record { session = o.session; memory = o.memory } }

module _ (L : Layout) where
  -- one call; "the session it got stays the latest" where records are handed back
  unfoldable pub call_with : Lent → World → Call → Turn
  call_with l w (opening s k) = turn_of (λ u. accepted) (open_with L s k w.session w.memory)
  call_with l w (expand n) = turn_of part (expand_with L l w.session w.memory n)
  call_with l w (final_weight n) = turn_of weight (final_weight_with L l w.session w.memory n)
  call_with l w run = turn_of (λ u. accepted) (run_with L l w.session w.memory)
  call_with l w (records n) = record { reply = handed (records_with L l w.session w.memory n); world = w }

  -- all that a list of calls returns
  unfoldable pub replies_with : Lent → World → List Call → List Reply
  replies_with l w [] = []
  replies_with l w (c ∷ cs) = let t = call_with l w c in t.reply ∷ replies_with l t.world cs

  -- the world after a list of calls
  unfoldable pub after_with : Lent → World → List Call → World
  after_with l w [] = w
  after_with l w (c ∷ cs) = after_with l (call_with l w c).world cs

-- the same in the layout of every call
abbrev pub call_of : Lent → World → Call → Turn
call_of = call_with six

abbrev pub replies : Lent → World → List Call → List Reply
replies = replies_with six

abbrev pub after : Lent → World → List Call → World
after = after_with six
