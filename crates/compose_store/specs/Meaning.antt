-- What the code's types stand for in the definitions of `calls`, and what an expansion leaves.
use Rattle.std.specs.Prelude.{Bool, true, false, None, Some, Result, Ok, Err}
use Rattle.words.specs.Labels.{good, refused}
use Rattle.calls.specs.Store.{Memory, Part}
use Rattle.calls.specs.Checks.{Session, side_number}
use Rattle.calls.specs.Calls.{Outcome}
use Rattle.fst.specs.Refusals.{number_of}
use Rattle.fst.specs.declared.refusals.Refusal.{Refusal}
use Rattle.store_records.specs.declared.Used.{Used}
use Rattle.store_records.specs.Meaning.{used_means}
use Rattle.tr_lists.specs.Meaning.{part_means}
use Rattle.tr_lists.specs.declared.Part.{Part as CodePart}
use Rattle.match_type.specs.Chosen.{side_means}
use Rattle.compose_fst_op.specs.Composing.{option_settings}
use Rattle.compose_fst_op.specs.declared.ComposeFstOpOptions.{ComposeFstOpOptions}
use Rattle.compose_moves.specs.Cursors.{NextStep}
pub use Rattle.stored_steps.specs.Storing.{Accepted}

-- another step, or a refusal, comes
abbrev pub goes_on : NextStep → Bool
goes_on (Ok (Some p)) = true
goes_on (Ok None) = false
goes_on (Err refusal) = true

-- the session of a composition, with these used counts
abbrev pub session_under : ComposeFstOpOptions → Used → Session
session_under o u = record { settings = option_settings o; side = side_number (side_means o.side); used = used_means u }

-- What an expansion leaves: the new records and the session with the new used counts; or a refusal by its number in the table of "Answers" and the session that was given.
-- The memory is that at exit.
abbrev pub left_by : ComposeFstOpOptions → Used → Memory → Result (CodePart × Used) Refusal → Outcome Part
left_by o u m (Ok r) = record { answer = good (part_means r.0); session = session_under o r.1; memory = m }
left_by o u m (Err refusal) = record { answer = refused (number_of refusal); session = session_under o u; memory = m }
