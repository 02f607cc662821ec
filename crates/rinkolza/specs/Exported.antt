-- The calls of 01, "Session and memory" and "Answers", as C functions have them: the session, the settings and the answers are words in lent slices.
use Rattle.std.specs.Prelude.{Bool, true, false, not, ◌&&◌, cond, List, [], ◌∷◌, ◌++◌, ℕ, eqb, length, get_or}
use Rattle.words.specs.Settings.{Settings, Lent}
use Rattle.calls.specs.Store.{Memory, Part, tr_size, room_of, first_at}
use Rattle.calls.specs.Checks.{Session}
use Rattle.calls.specs.Calls.{Outcome, open_of, expand_of, final_weight_of, run_of, records_of}
use Rattle.calls.specs.Sequences.{Said, refusal, accepted, part, weight, said_of}
use Rattle.calls.specs.Listing.{settings_size, settings_of}
use Rattle.lazy_fst.specs.Meaning.{lent_with}
use Rattle.lazy_fst.specs.declared.AllowedLists.{AllowedLists}
use Rattle.final_weights.specs.Weights.{weight_words}

-- "kind, filter, sigma 1, mode 1, sigma 2, mode 2"; `settings_of` reads them
abbrev pub settings_words : Settings → List ℕ
settings_words s = s.kind ∷ s.filter ∷ s.sigma1 ∷ s.mode1 ∷ s.sigma2 ∷ s.mode2 ∷ []

-- nine words: "The session also holds the six settings"; then its side, used states, used transitions
abbrev pub session_words : Session → List ℕ
session_words s = settings_words s.settings ++ (s.side ∷ s.used.states ∷ s.used.trs ∷ [])

-- the session of nine words
abbrev pub session_at : List ℕ → Session
session_at w = record { settings = settings_of w; side = get_or w 6 0; used = record { states = get_or w 7 0; trs = get_or w 8 0 } }

-- the lengths of settings, session and answer
abbrev pub six : List ℕ → Bool
six w = eqb (length w) settings_size

abbrev pub nine : List ℕ → Bool
nine w = eqb (length w) 9

abbrev pub two : List ℕ → Bool
two w = eqb (length w) 2

-- "no list: all; empty list: none": each list comes with a word, which is 0 where there is no list
abbrev pub listed_by : ℕ → ℕ → AllowedLists
listed_by has1 has2 = record { first = not (eqb has1 0); second = not (eqb has2 0) }

abbrev pub lent_words : (m1 m2 allowed1 : List ℕ) → ℕ → List ℕ → ℕ → (ignored : List ℕ) → Lent
lent_words m1 m2 allowed1 has1 allowed2 has2 ignored = lent_with m1 m2 allowed1 allowed2 ignored (listed_by has1 has2)

-- What an exported call leaves: the number it returns, the session's words, the answer's words, the three slices. Opening and run have no answer's words.
pub record Left : Type 0 where
  pub number : ℕ
  pub session : List ℕ
  pub answer : List ℕ
  pub memory : Memory

abbrev pub leaves : ℕ → List ℕ → List ℕ → Memory → Left
leaves n session answer m = record { number = n; session = session; answer = answer; memory = m }

-- the number of a refusal; 0 where the call is accepted
abbrev pub number_of : Said → ℕ
number_of (refusal n) = n
number_of accepted = 0
number_of (part p) = 0
number_of (weight w) = 0

-- "Expand answers their first and count"
abbrev pub part_words : Part → List ℕ
part_words p = p.first ∷ p.count ∷ []

-- the answer's words: a refused call leaves them as they were
abbrev pub answer_of : List ℕ → Said → List ℕ
answer_of old (refusal n) = old
answer_of old accepted = old
answer_of old (part p) = part_words p
answer_of old (weight w) = weight_words w

-- what a call leaves, in words
abbrev pub in_words : {A : Type 0} → (A → Said) → List ℕ → Outcome A → Left
in_words say old o = leaves (number_of (said_of say o.answer)) (session_words o.session) (answer_of old (said_of say o.answer)) o.memory

-- Slices of another length: refused 1, as "a settings line not of six such words", and nothing is changed.
abbrev pub if_sized : Bool → List ℕ → List ℕ → Memory → Left → Left
if_sized true session old m done = done
if_sized false session old m done = leaves 1 session old m

unfoldable pub open_words : List ℕ → Lent → List ℕ → Memory → Left
open_words settings l session m = if_sized (six settings && nine session) session [] m (in_words (λ u. accepted) [] (open_of (settings_of settings) l (session_at session) m))

unfoldable pub expand_words : Lent → List ℕ → List ℕ → Memory → ℕ → Left
expand_words l session old m n = if_sized (nine session && two old) session old m (in_words part old (expand_of l (session_at session) m n))

unfoldable pub final_weight_words : Lent → List ℕ → List ℕ → Memory → ℕ → Left
final_weight_words l session old m n = if_sized (nine session && two old) session old m (in_words weight old (final_weight_of l (session_at session) m n))

unfoldable pub run_words : Lent → List ℕ → Memory → Left
run_words l session m = if_sized (nine session) session [] m (in_words (λ u. accepted) [] (run_of l (session_at session) m))

-- "the state's records are handed back as that part of the lent slice": the first record and the count of the words handed back, two zeros for none
abbrev pub handed_part : List ℕ → ℕ → List ℕ → Part
handed_part states n words = record { first = cond (eqb (room_of tr_size words) 0) 0 (first_at states n); count = room_of tr_size words }

-- The answer's words after handing back; the call has no number and changes nothing else. A session of another length hands back nothing, an answer of another length stays.
unfoldable pub records_words : Lent → List ℕ → List ℕ → Memory → ℕ → List ℕ
records_words l session old m n = cond (two old) (part_words (handed_part m.states n (cond (nine session) (records_of l (session_at session) m n) []))) old
