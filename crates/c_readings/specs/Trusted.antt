-- A caller that owns its memory, at the border to C: where it may call the functions that do not check, and what they leave in its words, said by the exported calls, which check.
use Rattle.std.specs.Prelude.{◌≡◌, true, List, [], ◌∷◌, map, ◌≢◌, ◌⊎◌, ◌↔◌, ℕ, ◌+◌, ◌-◌, ◌*◌, ◌≤◌, ◌<◌, length, get_or, replicate}
use Rattle.lists.specs.Lists.{interval}
use Rattle.words.specs.Settings.{Lent}
use Rattle.calls.specs.Checks.{Passes}
use Rattle.calls.specs.Sequences.{World, Call, expand}
use Rattle.readings.specs.Worlds.{Accepted, OpeningsRefused, UsedState}
use Rattle.readings.specs.Owned.{piece_in, next_in, Later}
use Rattle.rinkolza.specs.Exported.{session_words, session_at, nine, Left, expand_words, final_weight_words}
use Rattle.list_facts.specs.Memo.{memo_words}
use Rattle.rinkolza.specs.Trusted.{piece_words, final_weights_words, Memos}
use Rattle.rinkolza.specs.Caller.{CallMade, CallerHolds, held_after}

-- a world in words, and the world that words say
abbrev pub holds_of : World → CallerHolds
holds_of w = record { session = session_words w.session; memory = w.memory }

abbrev pub world_held : CallerHolds → World
world_held h = record { session = session_at h.session; memory = h.memory }

-- what a call leaves for the next one
abbrev pub left_to : Left → CallerHolds
left_to x = record { session = x.session; memory = x.memory }

-- the calls of a list, and what the caller holds after it, from a world on
abbrev pub calls_of : List CallMade → List Call
calls_of ds = map (λ d. d.call) ds

abbrev pub held_from : Lent → World → List CallMade → CallerHolds
held_from l w ds = held_after l (session_words w.session) w.memory ds

-- what each function that does not check requires: of a session of nine words, the checks 1 to 8 pass
abbrev pub Required : Lent → CallerHolds → Type 0
Required l h = nine h.session ≡ true → Passes l (session_at h.session) h.memory

-- two memos that serve with what a caller holds serve with what it holds elsewhere
abbrev pub ServeAlso : Lent → CallerHolds → CallerHolds → Type 0
ServeAlso l h g = (memo1 memo2 : List ℕ) → Memos l h.session memo1 memo2 → Memos l g.session memo1 memo2

-- an expansion, with a and b in the answer's words before; and those of n and the states after it, one by one, before state j
abbrev pub expand_made : ℕ → ℕ → ℕ → CallMade
expand_made a b n = record { call = expand n; first = a; second = b }

abbrev pub expands_made : ℕ → ℕ → ℕ → ℕ → List CallMade
expands_made a b n j = map (expand_made a b) (interval n (j - n))

-- a piece of a run, with a and b in the answer's words before
abbrev pub piece_from : Lent → World → ℕ → ℕ → ℕ → ℕ → Left
piece_from l w n k a b = piece_words l (session_words w.session) (a ∷ b ∷ []) w.memory n k

-- What a piece of a run leaves, from state n on, at most k states: what the exported calls leave that expand n and the states after it, before the one with which the next piece goes on.
pub record PieceLeaves (l : Lent) (w : World) (n k : ℕ) (x : Left) : Type 0 where
  -- session and memory, whatever those calls' answers held before; and each of those calls returns 0
  pub leaves : (a b : ℕ) → held_from l w (expands_made a b n (next_in l w n k)) ≡ left_to x
  pub passes : (a b j : ℕ) → n ≤ j → j < next_in l w n k → let h = held_from l w (expands_made a b n j) in (expand_words l h.session (a ∷ b ∷ []) h.memory j).number ≡ 0
  -- the answer: the state with which the next piece goes on, and how many found states there are from it on
  pub answers : x.answer ≡ next_in l w n k ∷ ((session_at x.session).used.states - next_in l w n k) ∷ []
  -- 0 just where the piece is accepted: k states are passed, or none is left
  pub accepts : (x.number ≡ 0) ↔ Accepted (piece_in l w n k)
  pub ends : x.number ≡ 0 → (next_in l w n k ≡ n + k) ⊎ ((session_at x.session).used.states ≤ next_in l w n k)
  -- another number: the next state is found, and its exported expansion returns that number
  pub stops : x.number ≢ 0
      → (next_in l w n k < (session_at x.session).used.states)
      × ((a b : ℕ) → (expand_words l x.session (a ∷ b ∷ []) x.memory (next_in l w n k)).number ≡ x.number)

-- What all final weights in one go leave, with `old` in the answer's words before.
pub record WeightsLeave (l : Lent) (w : World) (old : List ℕ) (x : Left) : Type 0 where
  -- 0: state n's two words, from word 2 n on, are those that the exported final weight of n leaves, which returns 0
  pub each : x.number ≡ 0 → (n a b : ℕ) → UsedState w n
      → let y = final_weight_words l (session_words w.session) (a ∷ b ∷ []) w.memory n in
      (y.number ≡ 0) × (y.answer ≡ get_or x.answer (2 * n) 0 ∷ get_or x.answer (2 * n + 1) 0 ∷ [])
  -- else 12, and the answer's words stay
  pub stops : x.number ≢ 0 → (x.number ≡ 12) × (x.answer ≡ old)

-- What holds for such a caller in the words of a world of demand 3.
pub record OwnsInWords (l : Lent) (w : World) : Type 0 where
  -- It may call the functions that do not check: there, in every world to which it then comes, and where a list of exported calls, or a piece of a run in words, leaves it.
  pub required : Required l (holds_of w)
  pub later : (u : World) → Later l u w → Required l (holds_of u)
  pub calls : (ds : List CallMade) → OpeningsRefused l w (calls_of ds) → Required l (held_from l w ds)
  pub pieces : (n k a b : ℕ) → Required l (left_to (piece_from l w n k a b))
  -- The memos of those that expand: zeros serve, and what serves here serves in all those places. That what such a call leaves in the memos serves after it is its own promise.
  pub zeros : Memos l (session_words w.session) (replicate memo_words 0) (replicate memo_words 0)
  pub memos_later : (u : World) → Later l u w → ServeAlso l (holds_of w) (holds_of u)
  pub memos_calls : (ds : List CallMade) → OpeningsRefused l w (calls_of ds) → ServeAlso l (holds_of w) (held_from l w ds)
  pub memos_pieces : (n k a b : ℕ) → ServeAlso l (holds_of w) (left_to (piece_from l w n k a b))
  -- a piece is a list of exported calls
  pub piece : (n k a b : ℕ) → PieceLeaves l w n k (piece_from l w n k a b)
  -- all final weights in one go, into two words for each found state, are the exported ones
  pub weights : (old : List ℕ) → length old ≡ 2 * w.session.used.states → WeightsLeave l w old (final_weights_words l (session_words w.session) old w.memory)
