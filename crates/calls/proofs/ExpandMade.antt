-- What an accepted expansion of a state makes, in a store that finds each of its states: the stored steps, and the state's mark. Its list is the part of the new records, the other states keep theirs.
use mathlib.Core.Path.{◌≡◌, refl, sym, ◌∙◌, subst}
use mathlib.Core.List.Memᴰ
use mathlib.Core.List.{List, map, Memᴰ as In}
use mathlib.Core.Logic.{inl, ◌≢◌}
use Prim.Native.Nat.{ℕ, ◌+◌, ◌≤◌, ◌<◌}
use native.Mathlib.Omega.{arith}
use lib.ListN.{length}
use Rattle.words.specs.Labels.{good}
use Rattle.words.specs.Machines.{state_count}
use Rattle.words.specs.Steps.{Composition, Step, steps_at}
use Rattle.words.specs.Settings.{Lent}
use Rattle.words.proofs.StepRange.{InRange}
use Rattle.calls.specs.Store.{Memory, Store, state_size, state_field, triple_at, expanded_at, mark, part_at, first_with, mark_with}
use Rattle.calls.specs.Checks.{Session, store_of, entered}
use Rattle.calls.specs.Calls.{store_steps, new_part}
use Rattle.calls.proofs.ExpandKept.{Entered, entered_is, steps_range}
use Rattle.calls.proofs.FormKept.{mark_other, mark_expanded}
use Rattle.calls.proofs.StepsKept.{longer}
use Rattle.calls.proofs.StepsStay.{Stays, steps_stay}
use Rattle.calls.proofs.FindLaws.{Whole, marked_triple, whole_mark}
use Rattle.calls.proofs.StepsMade.{stay_state, stored_good, StepsMade, steps_made}
use Rattle.calls.proofs.Parts.{part_alike, new_low, part_new}
use Rattle.calls.proofs.RecordLaws.{first_place}

-- the store e after the steps of state n, with the state's mark
abbrev pub marked_by : Session → ℕ → Store → Store
marked_by s n e = mark e n (new_part s.used e.used).first

pub record ExpandMade (l : Lent) (c : Composition) (s : Session) (m : Memory) (n : ℕ) (e : Store) : Type 0 where
  pub steps : List Step
  pub moves : steps_at c (triple_at m.states n) ≡ map good steps
  pub made : StepsMade (state_count l.m1) (state_count l.m2) (store_of s m) steps e
  pub stays : Stays (store_of s m) e
  pub whole : Whole (marked_by s n e)
  -- triples stay; the words of other states too, and the state is expanded alone
  pub triple : (k : ℕ) → triple_at (marked_by s n e).memory.states k ≡ triple_at e.memory.states k
  pub other : (k j : ℕ) → k ≢ n → j < state_size → state_field (marked_by s n e).memory.states k j ≡ state_field e.memory.states k j
  pub field_other : (k j : ℕ) → k < s.used.states → k ≢ n → j < state_size → state_field (marked_by s n e).memory.states k j ≡ state_field m.states k j
  pub expanded : expanded_at (marked_by s n e).memory.states n ≡ 1
  -- its list, and those of others
  pub part_it : part_at (marked_by s n e) n ≡ new_part s.used e.used
  pub part_other : (k : ℕ) → k < s.used.states → k ≢ n → part_at (marked_by s n e) k ≡ part_at (store_of s m) k

module _ (l : Lent) (c : Composition) (s : Session) (m : Memory) (enters : entered l s m ≡ good c) (all_found : Whole (store_of s m)) (n : ℕ) (found : n < s.used.states)
    (e : Store) (stored : store_steps (store_of s m) (steps_at c (triple_at m.states n)) ≡ good e) where
  abbrev d : Store
  d = store_of s m

  abbrev S1 : ℕ
  S1 = state_count l.m1

  abbrev S2 : ℕ
  S2 = state_count l.m2

  checks : Entered l s m c
  checks = entered_is l s m c enters

  all : (steps : List Step) × (steps_at c (triple_at m.states n) ≡ map good steps)
  all = stored_good d (steps_at c (triple_at m.states n)) e stored

  in_range : (st : Step) → In st all.0 → InRange S1 S2 st.to
  in_range st i = steps_range l s m c enters n found st (subst (λ x. In (good st) x) (sym all.1) (Memᴰ.map good i))

  made' : StepsMade S1 S2 d all.0 e
  made' =
      steps_made d (s.used.trs + length all.0) all.0 e (longer d (s.used.trs + length all.0) checks.form (omega arith)) all_found in_range (omega (arith, found)) refl
      (subst (λ x. store_steps d x ≡ good e) all.1 stored)

  stays' : Stays d e
  stays' = steps_stay d (steps_at c (triple_at m.states n)) e stored

  abbrev from : ℕ
  from = (new_part s.used e.used).first

  low : from ≤ e.used.trs
  low = new_low s.used e.used stays'.trs

  here' : n < e.used.states
  here' = omega (arith, found, made'.states)

  field_other' : (k j : ℕ) → k < s.used.states → k ≢ n → j < state_size → state_field (marked_by s n e).memory.states k j ≡ state_field m.states k j
  field_other' k j h x i = mark_other e made'.form n from here' low k j x i ∙ stay_state stays' k j h i

  pub expand_made_lem : ExpandMade l c s m n e
  unfolding mark_with first_with
  expand_made_lem = record {
    steps = all.0;
    moves = all.1;
    made = made';
    stays = stays';
    whole = whole_mark e made'.form made'.whole n from here' low;
    triple = marked_triple e made'.form made'.whole n from here' low;
    other = λ k j x i. mark_other e made'.form n from here' low k j x i;
    field_other = field_other';
    expanded = mark_expanded e made'.form n from here' low;
    part_it = part_new s.used e made'.form n here' all.0 made'.trs made'.written low;
    part_other = λ k h x. part_alike d (marked_by s n e) checks.form stays'.trs k h (λ i y. stays'.tr_word_lem i (inl y)) (field_other' k first_place h x (omega arith));
  }
