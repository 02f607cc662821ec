-- 01, "The listing", stage by stage, in any memory: "It opens, runs, then takes final weights in number order". `composed_lines` of `calls` is `opened_of` in its own memory.
use Rattle.std.specs.Prelude.{◌≡◌, ℕ, ◌+◌, ◌*◌, ◌≤◌, length}
use mathlib.Core.List.{List, flat_map}
use Rattle.lists.specs.Lists.{interval}
use Rattle.words.specs.Labels.{Checked, good, refused, and_then}
use Rattle.words.specs.Settings.{Settings, Lent}
use Rattle.calls.specs.Store.{Memory, state_size, tr_size, state_room, tr_room}
use Rattle.calls.specs.Checks.{Session}
use Rattle.calls.specs.Calls.{open_of, run_of, final_weight_of}
use Rattle.calls.specs.Listing.{Line, state_lines, listed}
use Rattle.final_weights.specs.Weights.{given_weight}

-- the lines of state n
abbrev pub lines_at : Lent → Session → Memory → ℕ → List Line
lines_at l s m n = state_lines l s m n (given_weight (final_weight_of l s m n).answer)

-- the lines of the k states from state n on
unfoldable pub lines_from : Lent → Session → Memory → ℕ → ℕ → List Line
lines_from l s m n k = flat_map (lines_at l s m) (interval n k)

-- no line is longer than 64 bytes: there is room for so many from place `to` on
abbrev pub Room : List ℕ → ℕ → ℕ → Type 0
Room out to lines = to + 64 * lines ≤ length out

-- runs, then takes final weights and lists
unfoldable pub ran_of : Lent → Session → Memory → Checked (List Line)
ran_of l s m = let r = run_of l s m in and_then r.answer (λ u. listed l r.session r.memory)

-- opens, then runs, takes final weights and lists
unfoldable pub opened_of : Settings → Lent → Session → Memory → Checked (List Line)
opened_of s l got m = let o = open_of s l got m in and_then o.answer (λ u. ran_of l o.session o.memory)

-- the memory that is left: what an accepted opening leaves is run
abbrev pub where_accepted : {A : Type 0} → Checked A → Memory → Memory → Memory
where_accepted (good a) ran kept = ran
where_accepted (refused n) ran kept = kept

unfoldable pub opened_memory : Settings → Lent → Session → Memory → Memory
opened_memory s l got m = let o = open_of s l got m in where_accepted o.answer (run_of l o.session o.memory).memory o.memory

-- memory of 1024 records of each sort, and a buffer for as many lines and two more
pub record Sized (states trs out : List ℕ) : Type 0 where
  pub state_words : length states ≡ state_size * 1024
  pub tr_words : length trs ≡ tr_size * 1024
  pub bytes : 131200 ≤ length out

-- an accepted run leaves no more lines than there is room for records
abbrev pub FewLines : Lent → Session → Memory → Type 0
FewLines l s m = let r = run_of l s m in r.answer ≡ good tt → length (lines_from l r.session r.memory 0 r.session.used.states) ≤ state_room r.memory + tr_room r.memory
