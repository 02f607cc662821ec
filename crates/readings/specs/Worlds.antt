-- Demand 3, scope: the worlds that a list of calls leads to, what their records say, and what holds in each of them.
use Rattle.std.specs.Prelude.{◌≡◌, ◌↔◌, ℕ, ◌+◌, ◌-◌, ◌≤◌, ◌<◌, length, Option, Some}
use mathlib.Core.List.{List, [], ◌∷◌, map, Memᴰ}
use Rattle.lists.specs.Lists.{At, interval}
use Rattle.papers.specs.Composition.{Triple}
use Rattle.words.specs.Labels.{Checked, good, refused}
use Rattle.words.specs.Steps.{Composition, Step, steps_at, start_at}
use Rattle.words.specs.Settings.{Settings, Lent}
use Rattle.calls.specs.Store.{Part, part_at, triple_at, expanded_at, input_at, output_at, weight_at, target_at}
use Rattle.calls.specs.Checks.{store_of, entered}
use Rattle.calls.specs.Calls.{Outcome, words_of_part, open_of, expand_of, final_weight_of, run_of, records_of}
use Rattle.calls.specs.Sequences.{World, Call, opening, expand, final_weight, records, run, call_of}

-- "Each call gets the session last returned, at first the opening's, and memory as last left"
abbrev pub world_of : {A : Type 0} → Outcome A → World
world_of o = record { session = o.session; memory = o.memory }

-- "Calls: open, expand n, final weight of n, run", and handing back n's records, in a world
abbrev pub open_in : Settings → Lent → World → Outcome (Unit {0})
open_in s l w = open_of s l w.session w.memory

abbrev pub expand_in : Lent → World → ℕ → Outcome Part
expand_in l w n = expand_of l w.session w.memory n

abbrev pub final_in : Lent → World → ℕ → Outcome (Option ℕ)
final_in l w n = final_weight_of l w.session w.memory n

abbrev pub run_in : Lent → World → Outcome (Unit {0})
run_in l w = run_of l w.session w.memory

abbrev pub handed_in : Lent → World → ℕ → List ℕ
handed_in l w n = records_of l w.session w.memory n

-- a call is answered with a value, or refused
abbrev pub Accepted : {A : Type 0} → Outcome A → Type 0
Accepted {A} o = (a : A) × (o.answer ≡ good a)

abbrev pub Refused : {A : Type 0} → Checked A → Type 0
Refused (good a) = ⊥
Refused (refused n) = Unit {0}

-- "Refused openings may stand in it, with any machines and settings.": in a list of calls from the world w on, each opening is refused when its turn comes
abbrev pub OpeningsRefused : Lent → World → List Call → Type 0
OpeningsRefused l w [] = Unit {0}
OpeningsRefused l w (opening s k ∷ cs) = Refused (open_in s k w).answer × OpeningsRefused l (call_of l w (opening s k)).world cs
OpeningsRefused l w (expand n ∷ cs) = OpeningsRefused l (call_of l w (expand n)).world cs
OpeningsRefused l w (final_weight n ∷ cs) = OpeningsRefused l (call_of l w (final_weight n)).world cs
OpeningsRefused l w (records n ∷ cs) = OpeningsRefused l (call_of l w (records n)).world cs
OpeningsRefused l w (run ∷ cs) = OpeningsRefused l (call_of l w run).world cs

-- state n, and transition record r (records count from 1), are in use: "with used counts"
abbrev pub UsedState : World → ℕ → Type 0
UsedState w n = n < w.session.used.states

abbrev pub UsedTr : World → ℕ → Type 0
UsedTr w r = (0 < r) × (r ≤ w.session.used.trs)

-- "expanded (0 or 1)": as the state's record says. `ExpandedBy` says it by the calls made, and `expanded` of `Demand3` that both are one.
abbrev pub Expanded : World → ℕ → Type 0
Expanded w n = UsedState w n × (expanded_at w.memory.states n ≡ 1)

-- the composed state of a number
abbrev pub state_at : World → ℕ → Triple
state_at w n = triple_at w.memory.states n

-- its list in the store: the first record and the count, the record numbers, the words
abbrev pub part_in : World → ℕ → Part
part_in w n = part_at (store_of w.session w.memory) n

abbrev pub records_in : World → ℕ → List ℕ
records_in w n = interval (part_in w n).first (part_in w n).count

abbrev pub words_in : World → ℕ → List ℕ
words_in w n = words_of_part w.memory.trs (part_in w n)

-- of transition record r: "machine 1's input, machine 2's output .. the product of their weights and the state reached"; records count from 1
abbrev pub input_of : World → ℕ → ℕ
input_of w r = input_at w.memory.trs (r - 1)

abbrev pub output_of : World → ℕ → ℕ
output_of w r = output_at w.memory.trs (r - 1)

abbrev pub weight_of : World → ℕ → ℕ
weight_of w r = weight_at w.memory.trs (r - 1)

abbrev pub target_of : World → ℕ → ℕ
target_of w r = target_at w.memory.trs (r - 1)

-- "Found are state 0, if both machines have a start, and every target of an expanded state": the least such set, so that no states find one another alone
pub data Found (c : Composition) (w : World) : ℕ → Type 0 where
  at_start : (n : ℕ) (t : Triple) → start_at c ≡ Some t → n ≡ 0 → Found c w n
  as_target : (n k r : ℕ) → Found c w k → Expanded w k → Memᴰ r (records_in w k) → target_of w r ≡ n → Found c w n

-- "An expanded state's k-th transition record is its k-th kept move: machine 1's input, machine 2's output (both after any rewriting), the product of their
-- weights and the state reached"; `step` has these of a kept move
pub record IsRecord (w : World) (r : ℕ) (step : Step) : Type 0 where
  pub input : input_of w r ≡ step.input
  pub output : output_of w r ≡ step.output
  pub weight : weight_of w r ≡ step.weight
  pub used : UsedState w (target_of w r)
  pub target : state_at w (target_of w r) ≡ step.to

-- the list of an expanded state: as many records as kept moves, none of which is refused, the k-th for the k-th
pub record IsList (c : Composition) (w : World) (n : ℕ) : Type 0 where
  pub steps : List Step
  pub moves : steps_at c (state_at w n) ≡ map good steps
  pub count : (part_in w n).count ≡ length steps
  pub record_of : (k : ℕ) (step : Step) → At steps k step → IsRecord w ((part_in w n).first + k) step

-- What holds in every world that a list of calls leads to.
pub record Sound (l : Lent) (c : Composition) (w : World) : Type 0 where
  -- the checks 1 to 8 pass: no call but a refused opening is refused by them, and 8 is never answered
  pub enters : entered l w.session w.memory ≡ good c
  -- "used counts: they equal the records found": the used states are the found ones, and every used transition record stands in the list of one expanded state
  pub found : (n : ℕ) → UsedState w n ↔ Found c w n
  pub listed : (r : ℕ) → UsedTr w r ↔ ((k : ℕ) × Expanded w k × Memᴰ r (records_in w k))
  pub alone : (r j k : ℕ) → Expanded w j → Expanded w k → Memᴰ r (records_in w j) → Memᴰ r (records_in w k) → j ≡ k
  -- a composed state has one number, and the start has number 0
  pub distinct : (i j : ℕ) → UsedState w i → UsedState w j → state_at w i ≡ state_at w j → i ≡ j
  pub start : (t : Triple) → start_at c ≡ Some t → state_at w 0 ≡ t
  -- "numbers from 0 in order of first finding": before a record leads to a state, every smaller number but 0 is the target of an earlier record
  pub order : (r n : ℕ) → 0 < r → r ≤ w.session.used.trs → 0 < n → n < target_of w r → (q : ℕ) × (0 < q) × (q < r) × (target_of w q ≡ n)
  -- every expanded state's list is that of its kept moves
  pub lists : (n : ℕ) → Expanded w n → IsList c w n
