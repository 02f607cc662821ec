-- What a link of a chain stands for, and what finding or adding a state stands for in `place` of `stored_steps`.
use Rattle.std.specs.Prelude.{List, ℕ, zero, suc, ◌+◌, Option, None, Some}
use Rattle.calls.specs.Calls.{Reached as Place}
use Rattle.store_records.specs.Meaning.{stored}
use Rattle.state_table.specs.declared.Reached.{Reached}

-- the state to which a link leads; 0 leads to none
abbrev pub link_means : ℕ → Option ℕ
link_means zero = None
link_means (suc n) = Some n

-- a state of the table, and the table, in these slices
abbrev pub reached_means : (heads states trs : List ℕ) (k : ℕ) → Reached → Place
reached_means heads states trs k r = record { store = stored heads states trs r.used k; state = r.state.0 }

-- The same by a link: 0 says that the state is the one just added to those in use.
abbrev pub placed_by : (heads states trs : List ℕ) (used k : ℕ) → ℕ → Place
placed_by heads states trs used k zero = record { store = stored heads states trs (used + 1) k; state = used }
placed_by heads states trs used k (suc n) = record { store = stored heads states trs used k; state = n }
