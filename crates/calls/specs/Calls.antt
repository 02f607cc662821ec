-- 01, "Session and memory" and "Answers": open, expand, final weight, run, and handing back.
use Rattle.std.specs.Prelude.{Bool, true, false, not, ◌||◌, cond, List, [], ◌∷◌, map, ℕ, zero, suc, ◌+◌, ◌-◌, ◌*◌, min, eqb, leb, take, drop, length, Option, None, Some}
use Rattle.words.specs.Labels.{Checked, good, refused, refuse_if, and_then}
use Rattle.words.specs.Sides.{Side, non_empty}
use Rattle.words.specs.Steps.{Composition, Triple, Step, steps_at, start_at, final_at}
use Rattle.words.specs.Settings.{Settings, Lent, composition_of}
use Rattle.calls.specs.Store.{Memory, Used, Store, tr_size, append, Part, Layout, six, state_room_with, tr_room_with, expanded_with, find_with, add_with, mark_with, part_with}
use Rattle.calls.specs.Checks.{Session, side_number, store_of, side_for_with, entered_with, entered_at_with}

-- what a call leaves: its answer, a value or a refusal's number, with the session that it hands back, and the three slices
pub record Outcome (A : Type 0) : Type 0 where
  pub answer : Checked A
  pub session : Session
  pub memory : Memory

-- an accepted call's value, next session and memory
pub record Done (A : Type 0) : Type 0 where
  pub value : A
  pub session : Session
  pub memory : Memory

-- refused: "number, old session", and all slices as they were
abbrev pub settle : {A : Type 0} → Session → Memory → Checked (Done A) → Outcome A
settle s m (refused n) = record { answer = refused n; session = s; memory = m }
settle s m (good d) = record { answer = good d.value; session = d.session; memory = d.memory }

-- an accepted call that changes nothing
abbrev pub unchanged : {A : Type 0} → Session → Memory → A → Done A
unchanged s m a = record { value = a; session = s; memory = m }

-- "Opening clears the heads." No record is in use.
unfoldable pub cleared : Memory → Store
cleared m = record { memory = record { heads = map (λ h. 0) m.heads; states = m.states; trs = m.trs }; used = record { states = 0; trs = 0 } }

-- the session and the memory with which a list of calls begins
abbrev pub opened : Settings → Side → Store → Done (Unit {0})
opened s side d = record { value = tt; session = record { settings = s; side = side_number side; used = d.used }; memory = d.memory }

-- a state of the table, and the table
pub record Reached : Type 0 where
  pub store : Store
  pub state : ℕ

-- "next is own + 1, or 0 at the end": the own number is used + 1
abbrev pub next_for : Store → Bool → ℕ
next_for d true = d.used.trs + 2
next_for d false = 0

-- the new records of a state's list, from the first unused one on
abbrev pub new_part : Used → Used → Part
new_part before after = record { first = cond (eqb after.trs before.trs) 0 (before.trs + 1); count = after.trs - before.trs }

-- the session goes on with the new used counts
abbrev pub grown : Session → Store → Part → Done Part
grown s d p = record { value = p; session = record { settings = s.settings; side = s.side; used = d.used }; memory = d.memory }

-- a run goes on after an accepted expansion, with what it left; "A run refused at a state returns the session of the expansions kept."
abbrev pub onward : Checked Part → Session → Memory → (Session → Memory → Outcome (Unit {0})) → Outcome (Unit {0})
onward (good p) s m go = go s m
onward (refused n) s m go = record { answer = refused n; session = s; memory = m }

-- none is left
abbrev pub run_ended : Session → Memory → Outcome (Unit {0})
run_ended s m = settle s m (good (unchanged s m tt))

-- state n and those after it, or none is left
abbrev pub run_by : Bool → Session → Memory → Outcome Part → (Session → Memory → Outcome (Unit {0})) → Outcome (Unit {0})
run_by true s m o go = run_ended s m
run_by false s m o go = onward o.answer o.session o.memory go

-- a state's records as a part of the transition slice
abbrev pub words_of_part : List ℕ → Part → List ℕ
words_of_part trs p = take (tr_size * p.count) (drop (tr_size * (p.first - 1)) trs)

-- "as that part of the lent slice": the word of the slice at which the part begins
abbrev pub place_of : List ℕ → Part → ℕ
place_of trs p = min (tr_size * (p.first - 1)) (length trs)

module _ (L : Layout) where
  -- 13: "a record or, at opening, a head is lacking"; "not if a machine lacks a start: then no state is found"
  unfoldable pub begun_with : Memory → Option Triple → Checked Store
  begun_with m None = good (cleared m)
  begun_with m (Some t) = refuse_if (eqb (state_room_with L m) 0 || not (non_empty m.heads)) 13 (good (add_with L (cleared m) t))

  -- "Opening checks 1 to 7, then 13", with 18 among them (02, 2.7); the session it got is "unread", and handed back if refused
  unfoldable pub open_with : Settings → Lent → Session → Memory → Outcome (Unit {0})
  open_with s l got m = settle got m (and_then (side_for_with L s l) (λ side. and_then (begun_with m (start_at (composition_of s l side))) (λ d. good (opened s side d))))

  -- "numbers from 0 in order of first finding": the number of a triple is that of the state found, else the first unused one; 13 where its record is lacking
  abbrev pub reached_by_with : Store → Triple → Option ℕ → Checked Reached
  reached_by_with d t (Some n) = good (record { store = d; state = n })
  reached_by_with d t None = refuse_if (leb (state_room_with L d.memory) d.used.states) 13 (good (record { store = add_with L d t; state = d.used.states }))

  unfoldable pub reach_with : Store → Triple → Checked Reached
  reach_with d t = reached_by_with d t (find_with L d t)

  -- a kept move's transition record: 13 where it, or the record of a new state, is lacking
  unfoldable pub store_step_with : Store → ℕ → Step → Checked Store
  store_step_with d next st = refuse_if (leb (tr_room_with L d.memory) d.used.trs) 13 (and_then (reach_with d st.to) (λ r. good (append r.store st r.state next)))

  -- "in move order 11 before a walked label's matches, and 12, 13 for each kept move": the table grows from move to move
  unfoldable pub store_steps_with : Store → List (Checked Step) → Checked Store
  store_steps_with d [] = good d
  store_steps_with d (st ∷ others) = and_then st (λ s. and_then (store_step_with d (next_for d (non_empty others)) s) (λ e. store_steps_with e others))

  -- the expansion of an unexpanded state
  unfoldable pub expansion_with : Composition → Session → Memory → ℕ → Checked (Done Part)
  expansion_with c s m n =
      and_then (store_steps_with (store_of s m) (steps_at c (L.triple_at m.states n)))
      (λ d. let p = new_part s.used d.used in good (grown s (mark_with L d n p.first) p))

  -- "An expanded state is answered as stored."
  abbrev pub expand_by_with : Composition → Session → Memory → ℕ → Bool → Checked (Done Part)
  expand_by_with c s m n true = good (unchanged s m (part_with L (store_of s m) n))
  expand_by_with c s m n false = expansion_with c s m n

  unfoldable pub expand_with : Lent → Session → Memory → ℕ → Outcome Part
  expand_with l s m n = settle s m (and_then (entered_at_with L l s m n) (λ c. expand_by_with c s m n (eqb (expanded_with L m.states n) 1)))

  -- the weight, or none where the composed state is not final; "final weight then 12"
  unfoldable pub final_weight_with : Lent → Session → Memory → ℕ → Outcome (Option ℕ)
  final_weight_with l s m n = settle s m (and_then (entered_at_with L l s m n) (λ c. and_then (final_at c (L.triple_at m.states n)) (λ w. good (unchanged s m w))))

  -- "expand in number order until none is left or one is refused; each expansion before it stays": from state n on, at most k states
  unfoldable pub run_from_with : Lent → ℕ → ℕ → Session → Memory → Outcome (Unit {0})
  run_from_with l zero n s m = run_ended s m
  run_from_with l (suc k) n s m = let o = expand_with l s m n in run_by (leb s.used.states n) s m o (run_from_with l k (suc n))

  -- "Later calls check 1 to 9 (run has no 9)", with 18 among them. No more states are found than there is room for.
  abbrev pub run_after_with : Checked Composition → Lent → Session → Memory → Outcome (Unit {0})
  run_after_with (refused n) l s m = settle s m (refused n)
  run_after_with (good c) l s m = run_from_with l (state_room_with L m) 0 s m

  unfoldable pub run_with : Lent → Session → Memory → Outcome (Unit {0})
  run_with l s m = run_after_with (entered_with L l s m) l s m

  -- "the state's records are handed back as that part of the lent slice, an empty part where n is not expanded or 1 to 9 would stand; that call returns the part alone"
  abbrev pub records_by_with : Checked Composition → Store → ℕ → List ℕ
  records_by_with (refused k) d n = []
  records_by_with (good c) d n = cond (eqb (expanded_with L d.memory.states n) 1) (words_of_part d.memory.trs (part_with L d n)) []

  unfoldable pub records_with : Lent → Session → Memory → ℕ → List ℕ
  records_with l s m n = records_by_with (entered_at_with L l s m n) (store_of s m) n

  -- and where it lies in that slice: an empty part lies at its start
  abbrev pub records_place_by_with : Checked Composition → Store → ℕ → ℕ
  records_place_by_with (refused k) d n = 0
  records_place_by_with (good c) d n = cond (eqb (expanded_with L d.memory.states n) 1) (place_of d.memory.trs (part_with L d n)) 0

  unfoldable pub records_place_with : Lent → Session → Memory → ℕ → ℕ
  records_place_with l s m n = records_place_by_with (entered_at_with L l s m n) (store_of s m) n

-- the same in the layout of every call
abbrev pub begun : Memory → Option Triple → Checked Store
begun = begun_with six

abbrev pub open_of : Settings → Lent → Session → Memory → Outcome (Unit {0})
open_of = open_with six

abbrev pub reached_by : Store → Triple → Option ℕ → Checked Reached
reached_by = reached_by_with six

abbrev pub reach : Store → Triple → Checked Reached
reach = reach_with six

abbrev pub store_step : Store → ℕ → Step → Checked Store
store_step = store_step_with six

abbrev pub store_steps : Store → List (Checked Step) → Checked Store
store_steps = store_steps_with six

abbrev pub expansion : Composition → Session → Memory → ℕ → Checked (Done Part)
expansion = expansion_with six

abbrev pub expand_by : Composition → Session → Memory → ℕ → Bool → Checked (Done Part)
expand_by = expand_by_with six

abbrev pub expand_of : Lent → Session → Memory → ℕ → Outcome Part
expand_of = expand_with six

abbrev pub final_weight_of : Lent → Session → Memory → ℕ → Outcome (Option ℕ)
final_weight_of = final_weight_with six

abbrev pub run_from : Lent → ℕ → ℕ → Session → Memory → Outcome (Unit {0})
run_from = run_from_with six

abbrev pub run_after : Checked Composition → Lent → Session → Memory → Outcome (Unit {0})
run_after = run_after_with six

abbrev pub run_of : Lent → Session → Memory → Outcome (Unit {0})
run_of = run_with six

abbrev pub records_by : Checked Composition → Store → ℕ → List ℕ
records_by = records_by_with six

abbrev pub records_of : Lent → Session → Memory → ℕ → List ℕ
records_of = records_with six

abbrev pub records_place : Lent → Session → Memory → ℕ → ℕ
records_place = records_place_with six
