-- 01, "A machine in words".
use Rattle.std.specs.Prelude.{Bool, true, false, not, ◌&&◌, ◌||◌, cond, List, [], ◌∷◌, map, ℕ, zero, suc, ◌+◌, ◌*◌, eqb, ltb, leb, length, get_or, Option, None, Some}
use Rattle.lists.specs.Lists.{every, interval}
use Rattle.papers.specs.Machine.{Machine}
use Rattle.words.specs.Labels.{no_label}
use Rattle.words.specs.Matches.{MatchType, inputs, outputs, label_on}

-- "S and T are at most 65535" is now: "The limit on states, transitions and records of each sort becomes 16777215" (02, 2.9)
abbrev pub limit : ℕ
limit = 16777215

-- "the length is exactly 6 + 3S + 5T": the words of the header, of a state's record, of a transition's record
abbrev pub header_words : ℕ
header_words = 6

abbrev pub state_words : ℕ
state_words = 3

abbrev pub tr_words : ℕ
tr_words = 5

-- "Header: state count S, transition count T, start plus one (0: no start), input mark, output mark, acceptor mark."
unfoldable pub state_count : List ℕ → ℕ
state_count m = get_or m 0 0

unfoldable pub tr_count : List ℕ → ℕ
tr_count m = get_or m 1 0

unfoldable pub start_word : List ℕ → ℕ
start_word m = get_or m 2 0

-- the words of the header that hold a side's mark and the acceptor mark
abbrev pub mark_word : MatchType → ℕ
mark_word inputs = 3
mark_word outputs = 4

abbrev pub acceptor_word : ℕ
acceptor_word = 5

unfoldable pub side_mark : MatchType → List ℕ → ℕ
side_mark on m = get_or m (mark_word on) 0

unfoldable pub acceptor_mark : List ℕ → ℕ
acceptor_mark m = get_or m acceptor_word 0

-- "Then S records: first transition (0: none), final 0 or 1, final weight (0 if not final)." Word k of the record of state s; a state that is not there has words 0.
unfoldable pub state_word : List ℕ → ℕ → ℕ → ℕ
state_word m s k = cond (ltb s (state_count m)) (get_or m (header_words + state_words * s + k) 0) 0

-- "Then T records: input, output, weight, target state, next. Transitions count from 1". Word k of a record: t records go before the record t + 1. Number 0 has words 0.
unfoldable pub tr_word : List ℕ → ℕ → ℕ → ℕ
tr_word m zero k = 0
tr_word m (suc t) k = get_or m (header_words + state_words * state_count m + tr_words * t + k) 0

-- the word of a record that holds its label on a side
abbrev pub word_on : MatchType → ℕ
word_on inputs = 0
word_on outputs = 1

-- "a first at most T"
unfoldable pub first_ok : List ℕ → ℕ → Bool
first_ok m s = leb (state_word m s 0) (tr_count m)

-- "next is 0 or above its own number, up to T"
unfoldable pub next_ok : List ℕ → ℕ → Bool
next_ok m t = eqb (tr_word m t 4) 0 || (ltb t (tr_word m t 4) && leb (tr_word m t 4) (tr_count m))

-- The first record of a state's list, and the record after t in its list; "0 ends the list". Where the word breaks the rule, which makes the machine malformed, it is read
-- as 0: so every list ends, whatever the words are.
unfoldable pub first_of : List ℕ → ℕ → ℕ
first_of m s = cond (first_ok m s) (state_word m s 0) 0

unfoldable pub next_of : List ℕ → ℕ → ℕ
next_of m t = cond (next_ok m t) (tr_word m t 4) 0

-- the list that begins with record t, at most k records of it
unfoldable pub list_by : List ℕ → ℕ → ℕ → List ℕ
list_by m zero t = []
list_by m (suc k) zero = []
list_by m (suc k) (suc t) = suc t ∷ list_by m k (next_of m (suc t))

-- a list has at most T records, since numbers rise along it
unfoldable pub list_from : List ℕ → ℕ → List ℕ
list_from m t = list_by m (tr_count m) t

-- the list of state s, by record numbers
unfoldable pub list_of : List ℕ → ℕ → List ℕ
list_of m s = list_from m (first_of m s)

-- "start plus one (0: no start)"
abbrev pub less_one : ℕ → Option ℕ
less_one zero = None
less_one (suc s) = Some s

-- the machine that the words hold
abbrev pub machine_of : List ℕ → Machine
machine_of m = record {
  states = state_count m;
  start = less_one (start_word m);
  list = list_of m;
  input = λ t. tr_word m t 0;
  output = λ t. tr_word m t 1;
  weight = λ t. tr_word m t 2;
  target = λ t. tr_word m t 3;
  -- "A final weight equal to zero counts as final for the filters": the weight is not looked at
  is_final = λ s. eqb (state_word m s 1) 1;
  final_weight = λ s. state_word m s 2;
}

-- "no label falls": each label of the list is at least the one before it, and the first at least `low`
unfoldable pub no_fall : ℕ → List ℕ → Bool
no_fall low [] = true
no_fall low (x ∷ xs) = leb low x && no_fall x xs

-- "sorted (no label falls within any list)"
unfoldable pub sorted : MatchType → Machine → Bool
sorted on M = every (λ s. no_fall 0 (map (label_on on M) (M.list s))) (interval 0 M.states)

-- "final 0 or 1, final weight (0 if not final)"
abbrev pub final_ok : ℕ → ℕ → Bool
final_ok zero w = eqb w 0
final_ok (suc zero) w = true
final_ok (suc (suc n)) w = false

-- the record of state s
unfoldable pub state_ok : List ℕ → ℕ → Bool
state_ok m s = first_ok m s && final_ok (state_word m s 1) (state_word m s 2)

-- the record of transition t: no "label MAX", "a target below S"
unfoldable pub tr_ok : List ℕ → ℕ → Bool
tr_ok m t = ltb (tr_word m t 0) no_label && (ltb (tr_word m t 1) no_label && (ltb (tr_word m t 3) (state_count m) && next_ok m t))

-- "Side marks: 0 unknown, 1 sorted (no label falls within any list), 2 not sorted."
abbrev pub side_mark_ok : ℕ → Bool → Bool
side_mark_ok zero fact = true
side_mark_ok (suc zero) fact = fact
side_mark_ok (suc (suc zero)) fact = not fact
side_mark_ok (suc (suc (suc n))) fact = false

-- "Acceptor mark 1 says that input equals output everywhere; 0 says nothing."
abbrev pub acceptor_mark_ok : ℕ → Bool → Bool
acceptor_mark_ok zero fact = true
acceptor_mark_ok (suc zero) fact = fact
acceptor_mark_ok (suc (suc n)) fact = false

-- input equals output in all of the first T records, whether they stand in a list or not
abbrev pub same_labels : ℕ → Machine → Bool
same_labels T M = every (λ t. eqb (M.input t) (M.output t)) (interval 1 T)

unfoldable pub acceptor : List ℕ → Bool
acceptor m = same_labels (tr_count m) (machine_of m)

-- no "false mark"
unfoldable pub marks_ok : List ℕ → Bool
marks_ok m =
    side_mark_ok (side_mark inputs m) (sorted inputs (machine_of m))
    && (side_mark_ok (side_mark outputs m) (sorted outputs (machine_of m)) && acceptor_mark_ok (acceptor_mark m) (acceptor m))

-- S and T "are at most" the limit "and the length is exactly 6 + 3S + 5T."
unfoldable pub size_up_to : ℕ → List ℕ → Bool
size_up_to most m = leb (state_count m) most && (leb (tr_count m) most && eqb (length m) (header_words + state_words * state_count m + tr_words * tr_count m))

-- "Start plus one is at most S, a first at most T, a target below S. Anything else, a label MAX or a false mark included, is malformed."
unfoldable pub well_formed_up_to : ℕ → List ℕ → Bool
well_formed_up_to most m =
    size_up_to most m
    && (leb (start_word m) (state_count m)
    && (every (state_ok m) (interval 0 (state_count m))
    && (every (tr_ok m) (interval 1 (tr_count m))
    && marks_ok m)))

-- the same up to the limit that holds
abbrev pub size_ok : List ℕ → Bool
size_ok = size_up_to limit

abbrev pub well_formed : List ℕ → Bool
well_formed = well_formed_up_to limit
