-- Rows written one after the other: what is done, what is left, and the room for it.
use Rattle.std.specs.Prelude.{List, ℕ, ◌+◌, ◌*◌, ◌≤◌, ◌≡◌, length}
use Rattle.lists.specs.Lists.{put}
use Rattle.words.specs.Machines.{limit, header_words, state_words, tr_words}
use Rattle.machine_words.specs.MachineWords.{Row, trs_in, states_words, trs_words}
use Rattle.trim_rows.specs.declared.Done.{Done}

-- so many states, and so many transitions, of a machine
pub record Counts : Type 0 where
  pub rows : ℕ
  pub trs : ℕ

abbrev pub done_means : Done → Counts
done_means d = record { rows = d.rows; trs = d.trs }

abbrev pub nothing : Counts
nothing = record { rows = 0; trs = 0 }

-- what is done, and these rows
abbrev pub counted : Counts → List Row → Counts
counted k rows = record { rows = k.rows + length rows; trs = k.trs + trs_in rows }

-- where the record of the next state stands, and where its list does, in a machine of so many states
abbrev pub state_place : Counts → ℕ
state_place k = header_words + state_words * k.rows

abbrev pub list_place : ℕ → Counts → ℕ
list_place states k = header_words + state_words * states + tr_words * k.trs

-- the rows that are left written behind what is done
unfoldable pub filled : ℕ → Counts → List Row → List ℕ → List ℕ
filled states k rows out = put (put out (state_place k) (states_words k.trs rows)) (list_place states k) (trs_words k.trs rows)

-- the rows that are left make up the machine's states, and there is room for them
pub record Fits (states room : ℕ) (k : Counts) (rows : List Row) : Type 0 where
  pub all : k.rows + length rows ≡ states
  pub within : states ≤ limit
  pub few : k.trs + trs_in rows ≤ limit
  pub room_for_lem : header_words + state_words * states + tr_words * (k.trs + trs_in rows) ≤ room
