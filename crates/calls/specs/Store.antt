-- 01, "Session and memory": memory, its records, the chains of states.
use Rattle.std.specs.Prelude.{List, [], ◌∷◌, ◌++◌, ℕ, ◌+◌, ◌*◌, ◌/◌, ◌%◌, min, length, get_or, set, Option}
use Rattle.lists.specs.Lists.{put, first, linked}
use Rattle.words.specs.Machines.{limit}
use Rattle.words.specs.Matches.{Tr}
use Rattle.words.specs.Steps.{Triple, Step}
unfoldable pub use Rattle.words.specs.Steps.{same_triple}

-- "Memory is three slices: heads, states, transitions."
pub record Memory : Type 0 where
  pub heads : List ℕ
  pub states : List ℕ
  pub trs : List ℕ

-- the "used counts": records in use
pub record Used : Type 0 where
  pub states : ℕ
  pub trs : ℕ

pub record Store : Type 0 where
  pub memory : Memory
  pub used : Used

-- the words of a record of each sort
abbrev pub state_size : ℕ
state_size = 6

abbrev pub tr_size : ℕ
tr_size = 5

-- word k of record n + 1, where records have `size` words
unfoldable pub field_of : ℕ → List ℕ → ℕ → ℕ → ℕ
field_of size words n k = get_or words (size * n + k) 0

-- A state record is "s1 and then s2" (02, 2.9), "f, expanded (0 or 1), first transition, next; record n + 1 belongs to state n." Word k of the record of state n: the
-- words of its triple come first, numbered in their reader.
abbrev pub state_field : List ℕ → ℕ → ℕ → ℕ
state_field = field_of state_size

abbrev pub triple_words : Triple → List ℕ
triple_words t = t.s1 ∷ t.s2 ∷ t.f ∷ []

unfoldable pub triple_at : List ℕ → ℕ → Triple
triple_at states n = record { s1 = state_field states n 0; s2 = state_field states n 1; f = state_field states n 2 }

-- the place of "expanded"; the first transition is the next word, and the link the one after it
abbrev pub expanded_place : ℕ
expanded_place = 3

-- What 02's request 2.9 changed: the limit on machines and on records of each sort, the words of a state record, those of its triple and their reader, and the place of "expanded". What
-- depends on it is said for any layout, under names that end in `With`: so the old one, which crate layouts holds, gives the earlier answers by the same definitions.
pub record Layout : Type 0 where
  pub limit : ℕ
  pub state_size : ℕ
  pub triple_words : Triple → List ℕ
  pub triple_at : List ℕ → ℕ → Triple
  pub expanded_place : ℕ

-- the layout of every call
abbrev pub six : Layout
six = record { limit = limit; state_size = state_size; triple_words = triple_words; triple_at = triple_at; expanded_place = expanded_place }

-- A transition record is input, output, weight, target, next. Word k of record i + 1.
abbrev pub tr_field : List ℕ → ℕ → ℕ → ℕ
tr_field = field_of tr_size

abbrev pub input_at : List ℕ → ℕ → ℕ
input_at trs i = tr_field trs i 0

abbrev pub output_at : List ℕ → ℕ → ℕ
output_at trs i = tr_field trs i 1

abbrev pub weight_at : List ℕ → ℕ → ℕ
weight_at trs i = tr_field trs i 2

unfoldable pub target_at : List ℕ → ℕ → ℕ
target_at trs i = tr_field trs i 3

unfoldable pub tr_next_at : List ℕ → ℕ → ℕ
tr_next_at trs i = tr_field trs i 4

-- the transition that record i + 1 holds
abbrev pub tr_at : List ℕ → ℕ → Tr
tr_at trs i = record { input = input_at trs i; output = output_at trs i; weight = weight_at trs i; target = target_at trs i }

-- "Its chain starts at head (s1 + 31 × s2 + f) mod the number of heads": that head's place
unfoldable pub slot : List ℕ → Triple → ℕ
slot heads t = (t.s1 + 31 * t.s2 + t.f) % length heads

-- the record with which the chain of a triple starts
unfoldable pub head_of : List ℕ → Triple → ℕ
head_of heads t = get_or heads (slot heads t) 0

-- the record of a composed transition
abbrev pub tr_record : Step → ℕ → ℕ → List ℕ
tr_record st target next = st.input ∷ st.output ∷ st.weight ∷ target ∷ next ∷ []

-- a new transition "from the first unused record onward"
unfoldable pub append : Store → Step → ℕ → ℕ → Store
append d st target next = record {
  memory = record { heads = d.memory.heads; states = d.memory.states; trs = put d.memory.trs (tr_size * d.used.trs) (tr_record st target next) };
  used = record { states = d.used.states; trs = d.used.trs + 1 };
}

-- the first record and the number of records of a state's list
pub record Part : Type 0 where
  pub first : ℕ
  pub count : ℕ

module _ (L : Layout) where
  -- "Room is whole records, at most" the limit "of each sort."
  unfoldable pub room_with : ℕ → List ℕ → ℕ
  room_with size l = min L.limit (length l / size)

  unfoldable pub state_room_with : Memory → ℕ
  state_room_with m = room_with L.state_size m.states

  unfoldable pub tr_room_with : Memory → ℕ
  tr_room_with m = room_with tr_size m.trs

  unfoldable pub expanded_with : List ℕ → ℕ → ℕ
  expanded_with states n = field_of L.state_size states n L.expanded_place

  unfoldable pub first_with : List ℕ → ℕ → ℕ
  first_with states n = field_of L.state_size states n (L.expanded_place + 1)

  unfoldable pub next_with : List ℕ → ℕ → ℕ
  next_with states n = field_of L.state_size states n (L.expanded_place + 2)

  -- "newest first; 0 ends it": the states of a triple's chain; no chain is longer than the used states, as each next is below its own number
  unfoldable pub chain_with : Store → Triple → List ℕ
  chain_with d t = linked (next_with d.memory.states) d.used.states (head_of d.memory.heads t)

  -- "the first with the triple is the state"
  unfoldable pub find_with : Store → Triple → Option ℕ
  find_with d t = first (λ n. same_triple (L.triple_at d.memory.states n) t) (chain_with d t)

  -- the record of a state just found: not expanded, no transition
  abbrev pub state_record_with : Triple → ℕ → List ℕ
  state_record_with t next = L.triple_words t ++ (0 ∷ 0 ∷ next ∷ [])

  -- a new state in the first unused record, at the head of its chain
  unfoldable pub add_with : Store → Triple → Store
  add_with d t = record {
    memory = record {
      heads = set d.memory.heads (slot d.memory.heads t) (d.used.states + 1);
      states = put d.memory.states (L.state_size * d.used.states) (state_record_with t (head_of d.memory.heads t));
      trs = d.memory.trs;
    };
    used = record { states = d.used.states + 1; trs = d.used.trs };
  }

  -- state n is expanded, its list begins with record `first`
  unfoldable pub mark_with : Store → ℕ → ℕ → Store
  mark_with d n first = record {
    memory = record { heads = d.memory.heads; states = put d.memory.states (L.state_size * n + L.expanded_place) (1 ∷ first ∷ []); trs = d.memory.trs };
    used = d.used;
  }

  -- "An expanded state is answered as stored.": the list of state n, from its first record along the links
  unfoldable pub part_with : Store → ℕ → Part
  part_with d n = record {
    first = first_with d.memory.states n;
    count = length (linked (tr_next_at d.memory.trs) d.used.trs (first_with d.memory.states n));
  }

-- The same in the layout of every call: contracts and theorems speak of these.
abbrev pub room_of : ℕ → List ℕ → ℕ
room_of = room_with six

abbrev pub state_room : Memory → ℕ
state_room = state_room_with six

abbrev pub tr_room : Memory → ℕ
tr_room = tr_room_with six

abbrev pub expanded_at : List ℕ → ℕ → ℕ
expanded_at = expanded_with six

abbrev pub first_at : List ℕ → ℕ → ℕ
first_at = first_with six

abbrev pub next_at : List ℕ → ℕ → ℕ
next_at = next_with six

abbrev pub chain_of : Store → Triple → List ℕ
chain_of = chain_with six

abbrev pub find : Store → Triple → Option ℕ
find = find_with six

abbrev pub state_record : Triple → ℕ → List ℕ
state_record = state_record_with six

abbrev pub add : Store → Triple → Store
add = add_with six

abbrev pub mark : Store → ℕ → ℕ → Store
mark = mark_with six

abbrev pub part_at : Store → ℕ → Part
part_at = part_with six
