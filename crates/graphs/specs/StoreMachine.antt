-- The store read as a machine of the papers: for 02's requests 2.2, 2.3 and 2.10, which ask for its accepting paths.
use Rattle.std.specs.Prelude.{Bool, true, false, ℕ, zero, suc, ◌-◌, Option, None, Some}
use Rattle.lists.specs.Lists.{interval}
use Rattle.papers.specs.Machine.{Machine}
use Rattle.words.specs.Labels.{Checked, good, refused}
use Rattle.words.specs.Steps.{Composition, final_at}
use Rattle.calls.specs.Store.{Store, triple_at, part_at, input_at, output_at, weight_at, target_at}

-- "state 0 wherever any state is used"
abbrev pub first_state : ℕ → Option ℕ
first_state zero = None
first_state (suc n) = Some 0

-- the final weight that was answered; none where it was refused
abbrev pub given_weight : Checked (Option ℕ) → Option ℕ
given_weight (good w) = w
given_weight (refused n) = None

-- a composed state is final where its final weight is answered and not zero
abbrev pub answered : Checked (Option ℕ) → Bool
answered (good (Some w)) = true
answered (good None) = false
answered (refused n) = false

abbrev pub weight_in : Checked (Option ℕ) → ℕ
weight_in (good (Some w)) = w
weight_in (good None) = 0
weight_in (refused n) = 0

-- Transitions are record numbers, from 1. The list of a state is the part that expanding it answers, which form makes consecutive; a made-up store may have a record in several lists.
abbrev pub store_machine : Composition → Store → Machine
store_machine c d = record {
  states = d.used.states;
  start = first_state d.used.states;
  list = λ n. interval (part_at d n).first (part_at d n).count;
  input = λ r. input_at d.memory.trs (r - 1);
  output = λ r. output_at d.memory.trs (r - 1);
  weight = λ r. weight_at d.memory.trs (r - 1);
  target = λ r. target_at d.memory.trs (r - 1);
  is_final = λ n. answered (final_at c (triple_at d.memory.states n));
  final_weight = λ n. weight_in (final_at c (triple_at d.memory.states n));
}
