-- Lists of exported calls, and what their caller makes of the words. 01, "Session and memory": "Each call gets the session last returned, at first the opening's, and memory as last left".
use Rattle.std.specs.Prelude.{cond, List, [], ◌∷◌, ℕ, zero, suc, eqb, get_or, Option, None, Some}
use Rattle.words.specs.Settings.{Lent}
use Rattle.calls.specs.Store.{Memory, Part}
use Rattle.calls.specs.Calls.{words_of_part}
use Rattle.calls.specs.Sequences.{Call, opening, expand, final_weight, records, run, Said, refusal, accepted, part, weight, Reply, answered, handed}
use Rattle.rinkolza.specs.Exported.{settings_words, session_at, Left, leaves, open_words, expand_words, final_weight_words, run_words, records_words}

-- the exported function that makes a call; `old` is what the answer's words hold before
abbrev pub exported : Lent → List ℕ → List ℕ → Memory → Call → Left
exported l session old m (opening s k) = open_words (settings_words s) k session m
exported l session old m (expand n) = expand_words l session old m n
exported l session old m (final_weight n) = final_weight_words l session old m n
exported l session old m (records n) = leaves 0 session (records_words l session old m n) m
exported l session old m run = run_words l session m

-- the part, and the weight, that two words of an answer name
abbrev pub part_of : List ℕ → Part
part_of a = record { first = get_or a 0 0; count = get_or a 1 0 }

abbrev pub weight_heard : List ℕ → Option ℕ
weight_heard a = cond (eqb (get_or a 0 0) 0) None (Some (get_or a 1 0))

-- 0 says that the call is accepted, any other number is a refusal's
abbrev pub said_by : ℕ → Said → Said
said_by zero said = said
said_by (suc k) said = refusal (suc k)

-- the reply that a caller reads off the words that a call left
abbrev pub heard : Call → Left → Reply
heard (opening s k) x = answered (said_by x.number accepted) (session_at x.session)
heard (expand n) x = answered (said_by x.number (part (part_of x.answer))) (session_at x.session)
heard (final_weight n) x = answered (said_by x.number (weight (weight_heard x.answer))) (session_at x.session)
heard (records n) x = handed (words_of_part x.memory.trs (part_of x.answer))
heard run x = answered (said_by x.number accepted) (session_at x.session)

-- a call, and the two words that its answer's slice holds before
pub record CallMade : Type 0 where
  pub call : Call
  pub first : ℕ
  pub second : ℕ

-- all that a list of exported calls leaves, call by call
unfoldable pub lefts : Lent → List ℕ → Memory → List CallMade → List Left
lefts l session m [] = []
lefts l session m (d ∷ ds) = let x = exported l session (d.first ∷ d.second ∷ []) m d.call in x ∷ lefts l x.session x.memory ds

-- all that the caller reads off it
unfoldable pub heard_all : List CallMade → List Left → List Reply
heard_all [] xs = []
heard_all (d ∷ ds) [] = []
heard_all (d ∷ ds) (x ∷ xs) = heard d.call x ∷ heard_all ds xs

-- the session's words and memory between two calls
pub record CallerHolds : Type 0 where
  pub session : List ℕ
  pub memory : Memory

-- and after a list of exported calls
unfoldable pub held_after : Lent → List ℕ → Memory → List CallMade → CallerHolds
held_after l session m [] = record { session = session; memory = m }
held_after l session m (d ∷ ds) = let x = exported l session (d.first ∷ d.second ∷ []) m d.call in held_after l x.session x.memory ds
