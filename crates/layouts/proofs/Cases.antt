-- Closed cases: the old calls on the machines of 01's case 1, with the words that crate calls had in its tables before 2.9; and what the theorem says of them.
use mathlib.Core.Path.{◌≡◌, refl}
use mathlib.Core.List.{List, [], ◌∷◌}
use Rattle.std.specs.Prelude.{None, Some}
use Prim.Native.Nat.{ℕ, zero, suc, ◌≤◌, ◌<◌}
use native.Mathlib.Omega.{arith}
use lib.ListN.{get_or, replicate}
use Rattle.words.specs.Machines.{state_count, tr_count}
use Rattle.words.specs.Settings.{Lent}
use Rattle.calls.specs.Store.{Memory, triple_at, expanded_with, field_of, first_with, next_with}
use Rattle.calls.specs.Checks.{Session}
use Rattle.calls.specs.Sequences.{World, Call, opening, expand, final_weight, records, run, refusal, accepted, weight, Reply, answered, handed, after_with, replies_with}
use Rattle.calls.specs.Listing.{settings_of}
use Rattle.calls.proofs.Cases.{Holds}
use Rattle.calls.proofs.StarCases.{plain, lend, session, world, list_part, example1, example2}
use Rattle.layouts.specs.Layout.{five}
use Rattle.layouts.specs.SameRecords.{old_states, whole_trs, SameState, SameWorld, Small, Few, SameTurns}
use Rattle.layouts.proofs.Theorem.{earlier_answers}

-- what the old calls returned and left
abbrev pub Was : Lent → World → List Call → List Reply → World → Type 0
Was l w cs rs left = (replies_with five l w cs ≡ rs) × (after_with five l w cs ≡ left)

abbrev pub both : Lent
both = lend example1 example2

abbrev opens : Call
opens = opening (settings_of (plain 0 0)) both

abbrev with : ℕ → ℕ → Session
with states trs = session (plain 0 0) 1 states trs

-- Room for just what is found, and words without meaning: state 1 is the pair 1, 0, state 2 the pair 1, 1, state 3 the pair 2, 2.
abbrev all : List Call
all = opens ∷ run ∷ records 0 ∷ records 1 ∷ records 2 ∷ records 3 ∷ final_weight 2 ∷ final_weight 3 ∷ expand 4 ∷ []

abbrev old : World
old = world (with 0 0) (9 ∷ 9 ∷ []) (replicate 24 8) (replicate 17 8)

pub all_was :
    Was both old all
    (answered accepted (with 1 0)
    ∷ answered accepted (with 4 3)
    ∷ handed (1 ∷ 0 ∷ 1 ∷ 1 ∷ 0 ∷ [])
    ∷ handed (0 ∷ 7 ∷ 4 ∷ 2 ∷ 0 ∷ [])
    ∷ handed (2 ∷ 8 ∷ 3 ∷ 3 ∷ 0 ∷ [])
    ∷ handed []
    ∷ answered (weight None) (with 4 3)
    ∷ answered (weight (Some 3)) (with 4 3)
    ∷ answered (refusal 9) (with 4 3)
    ∷ [])
    (world (with 4 3) (4 ∷ 2 ∷ [])
    (0 ∷ 0 ∷ 1 ∷ 1 ∷ 0 ∷ 65536 ∷ 0 ∷ 1 ∷ 2 ∷ 0 ∷ 65537 ∷ 0 ∷ 1 ∷ 3 ∷ 1 ∷ 131074 ∷ 0 ∷ 1 ∷ 0 ∷ 3 ∷ 8 ∷ 8 ∷ 8 ∷ 8 ∷ [])
    (1 ∷ 0 ∷ 1 ∷ 1 ∷ 0 ∷ 0 ∷ 7 ∷ 4 ∷ 2 ∷ 0 ∷ 2 ∷ 8 ∷ 3 ∷ 3 ∷ 0 ∷ 8 ∷ 8 ∷ []))
unfolding Holds
all_was = (refl, refl)

-- a new memory with room for as many records, and other words without meaning
abbrev new : World
new = world (with 0 0) (9 ∷ 9 ∷ []) (replicate 25 7) (replicate 15 6)

all_begin : SameWorld old new
all_begin = record {
  session = refl;
  memory = record { heads = refl; states = refl; trs = refl; state = λ n h w. absurd (omega arith); word = λ i h w. absurd (omega arith) };
}

pub small : Small both
unfolding state_count tr_count
small = ((omega arith, omega arith), (omega arith, omega arith))

-- the calls of crate calls return the same there, and leave the same records
pub all_same : SameTurns both old new all
all_same = (earlier_answers both old new small all_begin).calls_few all (small, (tt, (tt, (tt, (tt, (tt, (tt, (tt, (tt, tt))))))))) (omega arith, omega arith)

-- 01's case 9, "state room 3 in case 1, expanding 2 gives 13"
pub lacks_was :
    Was both (world (session [] 0 0 0) (0 ∷ []) (replicate 15 0) (replicate 15 0)) (opens ∷ expand 0 ∷ expand 1 ∷ expand 2 ∷ [])
    (answered accepted (with 1 0) ∷ answered (list_part 1 1) (with 2 1) ∷ answered (list_part 2 1) (with 3 2) ∷ answered (refusal 13) (with 3 2) ∷ [])
    (world (with 3 2) (3 ∷ []) (0 ∷ 0 ∷ 1 ∷ 1 ∷ 0 ∷ 65536 ∷ 0 ∷ 1 ∷ 2 ∷ 1 ∷ 65537 ∷ 0 ∷ 0 ∷ 0 ∷ 2 ∷ []) (1 ∷ 0 ∷ 1 ∷ 1 ∷ 0 ∷ 0 ∷ 7 ∷ 4 ∷ 2 ∷ 0 ∷ replicate 5 0))
unfolding Holds
lacks_was = (refl, refl)

-- Memory made up by hand, the pair 1, 1 as state 0, in the old words and in the new ones: with head 1 it is in form, with head 2 it is not.
abbrev old_made : ℕ → World
old_made head = world (with 1 0) (head ∷ []) (65537 ∷ 0 ∷ 0 ∷ 0 ∷ 0 ∷ replicate 5 8) (replicate 5 8)

abbrev new_made : ℕ → World
new_made head = world (with 1 0) (head ∷ []) (1 ∷ 1 ∷ 0 ∷ 0 ∷ 0 ∷ 0 ∷ replicate 6 7) (replicate 5 7)

pub made_was :
    Was both (old_made 1) (expand 0 ∷ records 0 ∷ []) (answered (list_part 1 1) (with 2 1) ∷ handed (2 ∷ 8 ∷ 3 ∷ 1 ∷ 0 ∷ []) ∷ [])
    (world (with 2 1) (2 ∷ []) (65537 ∷ 0 ∷ 1 ∷ 1 ∷ 0 ∷ 131074 ∷ 0 ∷ 0 ∷ 0 ∷ 1 ∷ []) (2 ∷ 8 ∷ 3 ∷ 1 ∷ 0 ∷ []))
unfolding Holds
made_was = (refl, refl)

pub broken_was : Was both (old_made 2) (expand 0 ∷ records 0 ∷ []) (answered (refusal 8) (with 1 0) ∷ handed [] ∷ []) (old_made 2)
unfolding Holds
broken_was = (refl, refl)

made_begin : (head : ℕ) → SameWorld (old_made head) (new_made head)
unfolding expanded_with first_with next_with field_of triple_at
made_begin head = record { session = refl; memory = record { heads = refl; states = refl; trs = refl; state = λ n h w. go n h; word = λ i h w. absurd (omega arith) } }
  where
    go : (n : ℕ) → n < 1 → SameState (old_made head).memory.states (new_made head).memory.states n
    go zero h = record { triple = refl; expanded = refl; first = refl; next = refl }
    go (suc n) h = absurd (omega arith)

-- in form or not, the answers are the same
pub made_same : (head : ℕ) → SameTurns both (old_made head) (new_made head) (expand 0 ∷ records 0 ∷ [])
made_same head = (earlier_answers both (old_made head) (new_made head) small (made_begin head)).calls_few (expand 0 ∷ records 0 ∷ []) (tt, (tt, tt)) (omega arith, omega arith)

-- More records used than the slices hold, of which one of each sort is whole; the words behind it differ. 8 in both.
abbrev old_over : World
old_over = world (with 2 2) (1 ∷ []) (65537 ∷ 0 ∷ 0 ∷ 0 ∷ 0 ∷ 8 ∷ []) (1 ∷ 0 ∷ 1 ∷ 0 ∷ 0 ∷ 8 ∷ [])

abbrev new_over : World
new_over = world (with 2 2) (1 ∷ []) (1 ∷ 1 ∷ 0 ∷ 0 ∷ 0 ∷ 0 ∷ 7 ∷ []) (1 ∷ 0 ∷ 1 ∷ 0 ∷ 0 ∷ 7 ∷ [])

over_begin : SameWorld old_over new_over
unfolding expanded_with first_with next_with field_of triple_at
over_begin = record { session = refl; memory = record { heads = refl; states = refl; trs = refl; state = λ n h w. state n w; word = λ i h w. word i w } }
  where
    state : (n : ℕ) → n < 1 → SameState old_over.memory.states new_over.memory.states n
    state zero h = record { triple = refl; expanded = refl; first = refl; next = refl }
    state (suc n) h = absurd (omega arith)

    word : (i : ℕ) → i < 5 → get_or old_over.memory.trs i 0 ≡ get_or new_over.memory.trs i 0
    word zero h = refl
    word (suc zero) h = refl
    word (suc (suc zero)) h = refl
    word (suc (suc (suc zero))) h = refl
    word (suc (suc (suc (suc zero)))) h = refl
    word (suc (suc (suc (suc (suc i))))) h = absurd (omega arith)

pub over_same : SameTurns both old_over new_over (run ∷ expand 0 ∷ records 0 ∷ [])
over_same = (earlier_answers both old_over new_over small over_begin).calls_few (run ∷ expand 0 ∷ records 0 ∷ []) (tt, (tt, (tt, tt))) (omega arith, omega arith)

-- `Few` asks no more than this, in digits
pub few_asks : (m : Memory) → old_states m ≤ 65535 → whole_trs m ≤ 65535 → Few m
few_asks m states trs = (states, trs)
