-- Closed cases: small machines and the words of what trimming leaves of them.
use mathlib.Core.Path.{◌≡◌, refl}
use mathlib.Core.Bool.{Bool, true, false}
use mathlib.Core.List.{List, [], ◌∷◌}
use Rattle.std.specs.Prelude.{Option, None, Some}
use Prim.Native.Nat.{ℕ, ◌-◌}
use lib.ListN.{get_or}
use Rattle.lists.specs.Lists.{keep_if, interval}
use Rattle.papers.specs.Machine.{Machine}
use Rattle.words.specs.Matches.{Tr}
use Rattle.graphs.specs.Walks.{exists, leads_within, useful}
use Rattle.machine_words.specs.MachineWords.{list_words, trs_words, states_words, trs_in, machine_words}
use Rattle.trims.specs.Trims.{number, trimmed}

-- a state: its final weight, if it is final, and the numbers of its transitions
pub record State : Type 0 where
  pub final : Option ℕ
  pub list : List ℕ

abbrev given : Option ℕ → Bool
given None = false
given (Some w) = true

-- a state that is not final has a weight that must not come out
abbrev weight_of : Option ℕ → ℕ
weight_of None = 99
weight_of (Some w) = w

abbrev pub state : Option ℕ → List ℕ → State
state final list = record { final = final; list = list }

abbrev pub tr : ℕ → ℕ → ℕ → ℕ → Tr
tr input output weight target = record { input = input; output = output; weight = weight; target = target }

-- a machine by its states and its transitions, which count from 1
abbrev pub machine : Option ℕ → ℕ → List State → List Tr → Machine
machine start count states trs = record {
  states = count;
  start = start;
  list = λ n. (get_or states n (state None [])).list;
  input = λ r. (get_or trs (r - 1) (tr 0 0 0 0)).input;
  output = λ r. (get_or trs (r - 1) (tr 0 0 0 0)).output;
  weight = λ r. (get_or trs (r - 1) (tr 0 0 0 0)).weight;
  target = λ r. (get_or trs (r - 1) (tr 0 0 0 0)).target;
  is_final = λ n. given (get_or states n (state None [])).final;
  final_weight = λ n. weight_of (get_or states n (state None [])).final;
}

-- the words of what is left
unfoldable words : Option ℕ → ℕ → List State → List Tr → List ℕ
unfolding trimmed machine_words states_words trs_words list_words trs_in number useful leads_within exists keep_if interval
words start count states trs = trimmed (machine start count states trs)

-- a cycle that leads to no final state goes, and the list around its transition closes up: 0 leads to 3, to 1 and to 3; 1 and 2 lead to each other; 3 is final
dead_cycle : words (Some 0) 4 (state None (1 ∷ 2 ∷ 3 ∷ []) ∷ state None (4 ∷ []) ∷ state None (5 ∷ []) ∷ state (Some 7) [] ∷ [])
    (tr 10 11 12 3 ∷ tr 20 21 22 1 ∷ tr 30 31 32 3 ∷ tr 40 41 42 2 ∷ tr 50 51 52 1 ∷ [])
    ≡ 2 ∷ 2 ∷ 1 ∷ 0 ∷ 0 ∷ 0 ∷ 1 ∷ 0 ∷ 0 ∷ 0 ∷ 1 ∷ 7 ∷ 10 ∷ 11 ∷ 12 ∷ 1 ∷ 2 ∷ 30 ∷ 31 ∷ 32 ∷ 1 ∷ 0 ∷ []
unfolding words
dead_cycle = refl

-- a loop at a useful state stays
self_loop : words (Some 0) 2 (state None (1 ∷ 2 ∷ []) ∷ state (Some 3) (3 ∷ []) ∷ []) (tr 1 2 3 0 ∷ tr 4 5 6 1 ∷ tr 7 8 9 1 ∷ [])
    ≡ 2 ∷ 3 ∷ 1 ∷ 0 ∷ 0 ∷ 0 ∷ 1 ∷ 0 ∷ 0 ∷ 3 ∷ 1 ∷ 3 ∷ 1 ∷ 2 ∷ 3 ∷ 0 ∷ 2 ∷ 4 ∷ 5 ∷ 6 ∷ 1 ∷ 0 ∷ 7 ∷ 8 ∷ 9 ∷ 1 ∷ 0 ∷ []
unfolding words
self_loop = refl

-- no state is final: "If no state remains the machine has no start."
all_useless : words (Some 0) 2 (state None (1 ∷ []) ∷ state None (2 ∷ []) ∷ []) (tr 1 2 3 1 ∷ tr 4 5 6 0 ∷ []) ≡ 0 ∷ 0 ∷ 0 ∷ 0 ∷ 0 ∷ 0 ∷ []
unfolding words
all_useless = refl

-- a final state that the start does not reach keeps nothing: 0 leads to 1; 2 leads to 3 and to 0, and both 2 and 3 are final
start_useless : words (Some 0) 4 (state None (1 ∷ []) ∷ state None [] ∷ state (Some 1) (2 ∷ 3 ∷ []) ∷ state (Some 2) [] ∷ []) (tr 1 2 3 1 ∷ tr 4 5 6 3 ∷ tr 7 8 9 0 ∷ [])
    ≡ 0 ∷ 0 ∷ 0 ∷ 0 ∷ 0 ∷ 0 ∷ []
unfolding words
start_useless = refl

-- there is no start
no_start : words None 1 (state (Some 5) [] ∷ []) [] ≡ 0 ∷ 0 ∷ 0 ∷ 0 ∷ 0 ∷ 0 ∷ []
unfolding words
no_start = refl

-- states that lead only to states that are not final, as those of final weight zero are (CallCases): 0 leads to 1, which leads only to 2, which is such a state, and to 3, which is final; numbers close up
zero_end_lem : words (Some 0) 4 (state None (1 ∷ 2 ∷ []) ∷ state None (3 ∷ []) ∷ state None [] ∷ state (Some 4) [] ∷ []) (tr 1 2 3 1 ∷ tr 4 5 6 3 ∷ tr 7 8 9 2 ∷ [])
    ≡ 2 ∷ 1 ∷ 1 ∷ 0 ∷ 0 ∷ 0 ∷ 1 ∷ 0 ∷ 0 ∷ 0 ∷ 1 ∷ 4 ∷ 4 ∷ 5 ∷ 6 ∷ 1 ∷ 0 ∷ []
unfolding words
zero_end_lem = refl

-- a state before the start goes, so that the start's number falls: 1 is the start and final, 2 leads back to it, 0 leads to it from outside
before_start : words (Some 1) 3 (state (Some 1) (1 ∷ []) ∷ state (Some 2) (2 ∷ []) ∷ state None (3 ∷ []) ∷ []) (tr 1 2 3 1 ∷ tr 4 5 6 2 ∷ tr 7 8 9 1 ∷ [])
    ≡ 2 ∷ 2 ∷ 1 ∷ 0 ∷ 0 ∷ 0 ∷ 1 ∷ 1 ∷ 2 ∷ 2 ∷ 0 ∷ 0 ∷ 4 ∷ 5 ∷ 6 ∷ 1 ∷ 0 ∷ 7 ∷ 8 ∷ 9 ∷ 0 ∷ 0 ∷ []
unfolding words
before_start = refl
