-- Where the words of a machine lie.
use Rattle.std.specs.Prelude.{List, ℕ, ◌+◌, ◌-◌, ◌*◌, ◌<◌, ◌≤◌}
use Rattle.words.specs.Machines.{header_words, state_words, tr_words, state_count, tr_count}

-- where record 0 would begin: records count from 1
abbrev pub record_base : List ℕ → ℕ
record_base m = header_words - tr_words + state_words * state_count m

-- "Transitions count from 1"
abbrev pub IsRecord : List ℕ → ℕ → Type 0
IsRecord m t = (0 < t) × (t ≤ tr_count m)
