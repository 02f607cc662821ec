-- 02, 2.2, "Trimming".
use Rattle.std.specs.Prelude.{Bool, true, false, not, ◌||◌, cond, List, map, ℕ, suc, ◌*◌, eqb, ltb, length, replicate, Option, None, Some}
use Rattle.lists.specs.Lists.{keep_if, every, interval, put}
use Rattle.papers.specs.Machine.{Machine}
use Rattle.words.specs.Labels.{Checked, good, refused, refuse_if}
use Rattle.words.specs.Machines.{limit}
use Rattle.words.specs.Matches.{Tr}
use Rattle.words.specs.Steps.{Composition, final_at}
use Rattle.words.specs.Settings.{Lent}
use Rattle.calls.specs.Store.{Memory, Store, triple_at, expanded_at}
use Rattle.calls.specs.Checks.{Session, store_of, entered}
use Rattle.graphs.specs.Walks.{useful}
use Rattle.graphs.specs.StoreMachine.{store_machine}
use Rattle.machine_words.specs.MachineWords.{Row, trs_in, machine_words}

-- "exactly the states on some path from start to a final state, in their old order"
abbrev pub useful_states : Machine → List ℕ
useful_states M = keep_if (useful M) (interval 0 M.states)

-- "renumbered from 0": as many as are kept before it
unfoldable pub number : Machine → ℕ → ℕ
number M n = length (keep_if (useful M) (interval 0 n))

-- "with the transitions between them in list order"
abbrev pub kept_records : Machine → ℕ → List ℕ
kept_records M n = keep_if (λ r. useful M (M.target r)) (M.list n)

abbrev pub kept_tr : Machine → ℕ → Tr
kept_tr M r = record { input = M.input r; output = M.output r; weight = M.weight r; target = number M (M.target r) }

abbrev pub row_of : Machine → ℕ → Row
row_of M n = record { final = cond (M.is_final n) (Some (M.final_weight n)) None; list = map (kept_tr M) (kept_records M n) }

abbrev pub rows_of : Machine → List Row
rows_of M = map (row_of M) (useful_states M)

-- start plus one; "If no state remains the machine has no start."
abbrev pub new_start : Machine → Option ℕ → ℕ
new_start M None = 0
new_start M (Some a) = cond (useful M a) (suc (number M a)) 0

-- the trimmed machine "in the word form", "consecutive", "All marks are 0."
unfoldable pub trimmed : Machine → List ℕ
trimmed M = machine_words (new_start M M.start) (rows_of M)

-- "a work slice, two 64-bit words for each found state"
abbrev pub work_words : Store → ℕ
work_words d = 2 * d.used.states

-- 14: "a found state (here and later, a used one) is not expanded"
unfoldable pub all_expanded : Store → Bool
all_expanded d = every (λ n. eqb (expanded_at d.memory.states n) 1) (interval 0 d.used.states)

abbrev pub is_good : {A : Type 0} → Checked A → Bool
is_good (good a) = true
is_good (refused n) = false

-- 12: "a final weight is too large", of a used state, useful or not
unfoldable pub all_weighed : Composition → Store → Bool
all_weighed c d = every (λ n. is_good (final_at c (triple_at d.memory.states n))) (interval 0 d.used.states)

-- 13: "the output slice is short or a count would pass its limit"; states are no more than the used ones
unfoldable pub lacks_room : Machine → List ℕ → Bool
lacks_room M out = ltb limit (trs_in (rows_of M)) || ltb (length out) (length (trimmed M))

-- the words to write, past the check of the work slice: "14 .., then 12 .., then 13"
unfoldable pub trimmed_of : Composition → Store → List ℕ → Checked (List ℕ)
trimmed_of c d out =
    refuse_if (not (all_expanded d)) 14
    (refuse_if (not (all_weighed c d)) 12
    (refuse_if (lacks_room (store_machine c d) out) 13
    (good (trimmed (store_machine c d)))))

-- what the call leaves: how many words it wrote, or a refusal's number; the output slice and the work slice. Session and store are only read.
pub record Trim : Type 0 where
  pub answer : Checked ℕ
  pub out : List ℕ
  pub work : List ℕ

abbrev pub written : List ℕ → List ℕ → Checked (List ℕ) → Trim
written out work (good words) = record { answer = good (length words); out = put out 0 words; work = work }
written out work (refused k) = record { answer = refused k; out = out; work = work }

-- "Right after 8 a shorter one gets 13; past that check those words end as 0, even where the call is refused"
abbrev pub trim_by : Checked Composition → Store → List ℕ → List ℕ → Trim
trim_by (refused k) d out work = written out work (refused k)
trim_by (good c) d out work =
    cond (ltb (length work) (work_words d)) (written out work (refused 13)) (written out (put work 0 (replicate (work_words d) 0)) (trimmed_of c d out))

-- the call, past checks 1 to 8, with 18 after 3
unfoldable pub trim_of : Lent → Session → Memory → List ℕ → List ℕ → Trim
trim_of l s m out work = trim_by (entered l s m) (store_of s m) out work
