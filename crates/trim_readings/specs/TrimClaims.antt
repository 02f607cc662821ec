-- What trimming promises: 02, 2.2, "Trimming". Of every accepted call, and of the calls after a list as in demand 3.
use Rattle.std.specs.Prelude.{◌≡◌, Bool, true, ◌⊎◌, ◌↔◌, ℕ, ◌≤◌, ◌<◌, length, take, Some}
use mathlib.Core.List.{List, map, Memᴰ}
use Rattle.lists.specs.Lists.{At, put}
use Rattle.papers.specs.Machine.{Machine}
use Rattle.papers.specs.Weight.{semiring}
use Rattle.papers.specs.Filter.{MoveKind}
use Rattle.papers.specs.Composition.{Triple}
use Rattle.papers.specs.Paths.{word}
use Rattle.words.specs.Labels.{good, refused}
use Rattle.words.specs.Machines.{limit, machine_of, well_formed}
use Rattle.words.specs.Steps.{Composition, start_at}
use Rattle.words.specs.Settings.{Settings, Lent}
use Rattle.calls.specs.Store.{Memory, Store}
use Rattle.calls.specs.Checks.{Session, store_of, entered}
use Rattle.calls.specs.Sequences.{World}
use Rattle.graphs.specs.Walks.{Useful}
use Rattle.graphs.specs.StoreMachine.{first_state, store_machine}
use Rattle.machine_words.specs.MachineWords.{trs_in}
use Rattle.trims.specs.Trims.{number, kept_records, rows_of, trimmed, work_words, Trim, trim_of}
use Rattle.readings.specs.Correspondence.{OneToOne}
use Rattle.readings.specs.Listed.{pick_of}
use Rattle.readings.specs.Worlds.{UsedState, Expanded}
use Rattle.readings.specs.StorePaths.{AllRead, Finished, machine1, machine2, sigma2, AcceptingRecords, Accepting, weight_from, AgreeingPair, outputs_for, pair_of_records, records_of_pair, records_weight}
use Rattle.readings.specs.Demands.{AfterCalls}
use Rattle.trim_readings.specs.TrimPaths.{new_path, old_path}

-- the trimmed machine, read from its words
abbrev pub new_machine : Machine → Machine
new_machine M = machine_of (trimmed M)

-- new record q is the old record r, with the new number of its target
pub record SameRecord (M : Machine) (r q : ℕ) : Type 0 where
  pub input : (new_machine M).input q ≡ M.input r
  pub output : (new_machine M).output q ≡ M.output r
  pub weight : (new_machine M).weight q ≡ M.weight r
  pub target : (new_machine M).target q ≡ number M (M.target r)

-- the useful state n under its new number
pub record KeptState (M : Machine) (n : ℕ) : Type 0 where
  pub below : number M n < (new_machine M).states
  -- "in their old order"
  pub order : (b : ℕ) → Useful M b → n < b → number M n < number M b
  pub final : (new_machine M).is_final (number M n) ≡ M.is_final n
  pub final_weight_lem : M.is_final n ≡ true → (new_machine M).final_weight (number M n) ≡ M.final_weight n
  -- "with the transitions between them in list order"
  pub between : (r : ℕ) → Memᴰ r (kept_records M n) ↔ (Memᴰ r (M.list n) × Useful M (M.target r))
  pub count : length ((new_machine M).list (number M n)) ≡ length (kept_records M n)
  pub record_of : (j r q : ℕ) → At (kept_records M n) j r → At ((new_machine M).list (number M n)) j q → SameRecord M r q

-- new state k is the new number of one useful state, and useful itself
pub record NewState (M : Machine) (k : ℕ) : Type 0 where
  pub old : ℕ
  pub was_useful : Useful M old
  pub is : number M old ≡ k
  pub only : (n : ℕ) → Useful M n → number M n ≡ k → n ≡ old
  pub is_useful : Useful (new_machine M) k

-- What holds of the store d of every accepted call, made up or not. Both machines start at state 0.
pub record TrimmedRight (c : Composition) (d : Store) : Type 0 where
  -- "Its accepting paths are those of the untrimmed machine"
  pub paths : OneToOne (Accepting c (store_machine c d)) (Accepting c (new_machine (store_machine c d))) (new_path (store_machine c d)) (old_path (store_machine c d))
  -- with their weights and labels
  pub weights : (p : List ℕ) → Accepting c (store_machine c d) p
      → weight_from c (store_machine c d) 0 p ≡ weight_from c (new_machine (store_machine c d)) 0 (new_path (store_machine c d) p)
  pub inputs : (p : List ℕ) → Accepting c (store_machine c d) p
      → map (store_machine c d).input p ≡ map (new_machine (store_machine c d)).input (new_path (store_machine c d) p)
  pub outputs : (p : List ℕ) → Accepting c (store_machine c d) p
      → map (store_machine c d).output p ≡ map (new_machine (store_machine c d)).output (new_path (store_machine c d) p)
  -- "exactly the states on some path from start to a final state", and each of them still is on one
  pub states : (k : ℕ) → k < (new_machine (store_machine c d)).states → NewState (store_machine c d) k
  pub kept : (n : ℕ) → Useful (store_machine c d) n → KeptState (store_machine c d) n
  -- "If no state remains the machine has no start.", else it is state 0
  pub start : (new_machine (store_machine c d)).start ≡ first_state (new_machine (store_machine c d)).states

-- the claim about every accepted call: it answers how many words it wrote, and wrote the trimmed machine
abbrev pub ClaimOfEach : Type 0
ClaimOfEach = (l : Lent) (s : Session) (m : Memory) (out work : List ℕ) (k : ℕ) → (trim_of l s m out work).answer ≡ good k
    → (c : Composition) × (entered l s m ≡ good c)
    × (k ≡ length (trimmed (store_machine c (store_of s m))))
    × ((trim_of l s m out work).out ≡ put out 0 (trimmed (store_machine c (store_of s m))))
    × TrimmedRight c (store_of s m)

-- the store of a world, the machine that it holds, and trimming it
abbrev pub store_in : World → Store
store_in w = store_of w.session w.memory

abbrev pub held_in : Composition → World → Machine
held_in c w = store_machine c (store_in w)

abbrev pub trim_in : Lent → World → List ℕ → List ℕ → Trim
trim_in l w out work = trim_of l w.session w.memory out work

-- not 14, "a found state .. is not expanded"
abbrev pub AllExpanded : World → Type 0
AllExpanded w = (n : ℕ) → UsedState w n → Expanded w n

-- demand 3c of the trimmed machine: a new path has the pair of the old one
abbrev pub pair_of_new : Composition → World → List ℕ → List ℕ × List ℕ
pair_of_new c w q = pair_of_records c w (old_path (held_in c w) q)

abbrev pub new_of_pair : Composition → (Bool → Bool → MoveKind) → World → List ℕ × List ℕ → List ℕ
new_of_pair c pick w p = new_path (held_in c w) (records_of_pair c pick w p)

pub record PairsTrimmed (c : Composition) (pick : Bool → Bool → MoveKind) (w : World) : Type 0 where
  pub paths : OneToOne (Accepting c (new_machine (held_in c w))) (AgreeingPair c) (pair_of_new c w) (new_of_pair c pick w)
  -- "and weigh the product of both"
  pub weights : (t : Triple) → start_at c ≡ Some t → (q : List ℕ) → Accepting c (new_machine (held_in c w)) q
      → weight_from c (new_machine (held_in c w)) 0 q
      ≡ (semiring c.kind).times (weight_from c (machine1 c) t.s1 (pair_of_new c w q).0) (weight_from c (machine2 c) t.s2 (pair_of_new c w q).1)
  -- machine 1's inputs, and machine 2's outputs after any rewriting
  pub inputs : (q : List ℕ) → Accepting c (new_machine (held_in c w)) q
      → word (map (new_machine (held_in c w)).input q) ≡ word (map (machine1 c).input (pair_of_new c w q).0)
  pub outputs : (q : List ℕ) → Accepting c (new_machine (held_in c w)) q
      → word (map (new_machine (held_in c w)).output q)
      ≡ word (outputs_for (sigma2 c) (machine2 c) (word (map (machine1 c).output (pair_of_new c w q).0)) (pair_of_new c w q).1)

-- What holds in every world that a list of calls as in demand 3 leads to.
pub record TrimAfterCalls (s : Settings) (l : Lent) (c : Composition) (w : World) : Type 0 where
  pub right : TrimmedRight c (store_in w)
  -- the machine that the store holds has the accepting paths of demand 3c, with their weights; their labels are the same words
  pub same : AllExpanded w → (rs : List ℕ) → AcceptingRecords l w rs ↔ Accepting c (held_in c w) rs
  pub weighs : (rs : List ℕ) → AcceptingRecords l w rs → records_weight c.kind l w 0 rs ≡ weight_from c (held_in c w) 0 rs
  -- "and after calls as in demand 3 it is well formed": the words that an accepted call writes, as many as it answers
  pub writes : (out work : List ℕ) (k : ℕ) → (trim_in l w out work).answer ≡ good k → (take k (trim_in l w out work).out ≡ trimmed (held_in c w)) × (well_formed (trimmed (held_in c w)) ≡ true)
  -- "a count would pass its limit, which only a store not kept by our calls can bring about": here none does, and 13 says that a slice is short
  pub count : AllExpanded w → (trs_in (rows_of (held_in c w)) ≤ w.session.used.trs) × (w.session.used.trs ≤ limit)
  pub thirteen : (out work : List ℕ) → (trim_in l w out work).answer ≡ refused 13 → (length work < work_words (store_in w)) ⊎ (length out < length (trimmed (held_in c w)))
  -- where all is read and both slices are long enough, the call is accepted
  pub accepts : AllRead l w → (out work : List ℕ) → work_words (store_in w) ≤ length work → length (trimmed (held_in c w)) ≤ length out
      → (trim_in l w out work).answer ≡ good (length (trimmed (held_in c w)))
  -- 3c, for filters 0 to 2 and sigma on machine 2 at most
  pub pairs : Finished s l c w → PairsTrimmed c (pick_of s.filter) w

-- the claim about lists of calls
abbrev pub ClaimAfterCalls : Type 0
ClaimAfterCalls = AfterCalls TrimAfterCalls
