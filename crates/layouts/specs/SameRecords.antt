-- 02, 2.9: "Every earlier answer for machines within the old limit, with room for the same number of records, is the same, except that 8, 13 and malformed sizes move."
use Rattle.std.specs.Prelude.{◌≡◌, List, [], ◌∷◌, ◌++◌, ◌⊎◌, ℕ, ◌*◌, ◌/◌, ◌<◌, ◌≤◌, length, get_or}
use Rattle.words.specs.Labels.{refused}
use Rattle.words.specs.Machines.{state_count, tr_count}
use Rattle.words.specs.Settings.{Settings, Lent}
use Rattle.calls.specs.Store.{Memory, Used, state_size, tr_size, triple_at, expanded_at, first_at, next_at, expanded_with, first_with, next_with}
use Rattle.calls.specs.Checks.{Session, side_for_with}
use Rattle.calls.specs.Calls.{records_place, records_place_with}
use Rattle.calls.specs.Sequences.{World, Call, opening, expand, final_weight, records, run, refusal, Reply, answered, handed, Turn, call_of, replies, after, after_with, call_with, replies_with}
use Rattle.layouts.specs.Layout.{five}

-- the whole records that slices hold, of states in the old layout and in the new one, and of transitions
abbrev pub old_states : Memory → ℕ
old_states m = length m.states / five.state_size

abbrev pub new_states : Memory → ℕ
new_states m = length m.states / state_size

abbrev pub whole_trs : Memory → ℕ
whole_trs m = length m.trs / tr_size

-- state n is the same, read by either layout
pub record SameState (old new : List ℕ) (n : ℕ) : Type 0 where
  pub triple : five.triple_at old n ≡ triple_at new n
  pub expanded : expanded_with five old n ≡ expanded_at new n
  pub first : first_with five old n ≡ first_at new n
  pub next : next_with five old n ≡ next_at new n

-- "room for the same number of records": an old memory and a new one, with the same heads, as many whole records, and the same in the used ones among them. Nothing is asked
-- of other words, and no form.
pub record SameRecords (o m : Memory) (u : Used) : Type 0 where
  pub heads : o.heads ≡ m.heads
  pub states : old_states o ≡ new_states m
  pub trs : whole_trs o ≡ whole_trs m
  pub state : (n : ℕ) → n < u.states → n < new_states m → SameState o.states m.states n
  pub word : (i : ℕ) → i < tr_size * u.trs → i < tr_size * whole_trs m → get_or o.trs i 0 ≡ get_or m.trs i 0

-- and the same session
pub record SameWorld (o w : World) : Type 0 where
  pub session : o.session ≡ w.session
  pub memory : SameRecords o.memory w.memory w.session.used

-- "machines within the old limit"
abbrev pub SmallMachine : List ℕ → Type 0
SmallMachine m = (state_count m ≤ five.limit) × (tr_count m ≤ five.limit)

abbrev pub Small : Lent → Type 0
Small l = SmallMachine l.m1 × SmallMachine l.m2

-- a machine above it, of a "malformed" size
abbrev pub Large : List ℕ → Type 0
Large m = (five.limit < state_count m) ⊎ (five.limit < tr_count m)

-- those that an opening brings, accepted or refused
abbrev pub SmallCall : Call → Type 0
SmallCall (opening s l) = Small l
SmallCall (expand n) = Unit {0}
SmallCall (final_weight n) = Unit {0}
SmallCall (records n) = Unit {0}
SmallCall run = Unit {0}

abbrev pub SmallCalls : List Call → Type 0
SmallCalls [] = Unit {0}
SmallCalls (c ∷ cs) = SmallCall c × SmallCalls cs

-- no more whole records than the old limit
abbrev pub Few : Memory → Type 0
Few m = (old_states m ≤ five.limit) × (whole_trs m ≤ five.limit)

-- more of them, of some sort
abbrev pub Many : Memory → Type 0
Many m = (five.limit < old_states m) ⊎ (five.limit < whole_trs m)

-- more used than it
abbrev pub Above : Used → Type 0
Above u = (five.limit < u.states) ⊎ (five.limit < u.trs)

abbrev pub Refused13 : Reply → Type 0
Refused13 r = (s : Session) × (r ≡ answered (refusal 13) s)

-- where more are used than the old limit; handing back says 8 by an empty part
abbrev pub Refused8 : Session → Reply → Type 0
Refused8 s r = Above s.used × ((r ≡ answered (refusal 8) s) ⊎ (r ≡ handed []))

-- "8, 13 .. move": the slices hold more records than the old limit, and the old call was refused by 13 or by 8
pub record Moved (o : World) (t : Turn) : Type 0 where
  pub many : Many o.memory
  pub refused : Refused13 t.reply ⊎ Refused8 o.session t.reply

-- one call in both: the same answer, and the same records left
pub record SameTurn (t u : Turn) : Type 0 where
  pub reply : t.reply ≡ u.reply
  pub world : SameWorld t.world u.world

-- a list of calls in both
pub record SameTurns (l : Lent) (o w : World) (cs : List Call) : Type 0 where
  pub replies : replies_with five l o cs ≡ replies l w cs
  pub world : SameWorld (after_with five l o cs) (after l w cs)

-- or it is the same up to the first call that moves
pub record MovedAt (l : Lent) (o w : World) (cs : List Call) : Type 0 where
  pub before : List Call
  pub call : Call
  pub rest : List Call
  pub split : cs ≡ before ++ (call ∷ rest)
  pub same : SameTurns l o w before
  pub moved : Moved (after_with five l o before) (call_with five l (after_with five l o before) call)

-- the claim, for two worlds with the same records; `few`: where the slices hold no more records than the old limit, nothing moves
pub record SameAnswers (l : Lent) (o w : World) : Type 0 where
  pub call : (c : Call) → SmallCall c → SameTurn (call_with five l o c) (call_of l w c) ⊎ Moved o (call_with five l o c)
  pub calls : (cs : List Call) → SmallCalls cs → SameTurns l o w cs ⊎ MovedAt l o w cs
  pub call_few : (c : Call) → SmallCall c → Few o.memory → SameTurn (call_with five l o c) (call_of l w c)
  pub calls_few : (cs : List Call) → SmallCalls cs → Few o.memory → SameTurns l o w cs
  -- and where handed-back records lie, unless handing back moves
  pub place : (n : ℕ) → (records_place_with five l o.session o.memory n ≡ records_place l w.session w.memory n) ⊎ (Many o.memory × Above o.session.used)

-- "malformed sizes move": with a machine above the old limit every old call was refused by 1, 2 or 3, which the checks of all calls begin with
abbrev pub LargeRefused : Type 0
LargeRefused = (s : Settings) (l : Lent) → Large l.m1 ⊎ Large l.m2 → (k : ℕ) × (0 < k) × (k ≤ 3) × (side_for_with five s l ≡ refused k)

-- for all machines within the old limit, and all memories that hold the same records
abbrev pub EarlierAnswers : Type 0
EarlierAnswers = (l : Lent) (o w : World) → Small l → SameWorld o w → SameAnswers l o w
