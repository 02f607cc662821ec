-- What a run of the code stands for in the definitions of `calls`.
use Rattle.std.specs.Prelude.{Result, Ok, Err}
use Rattle.words.specs.Labels.{Checked, good, refused}
use Rattle.calls.specs.Store.{Memory, Part}
use Rattle.calls.specs.Calls.{Outcome}
use Rattle.fst.specs.Refusals.{number_of}
use Rattle.fst.specs.declared.refusals.Refusal.{Refusal}
use Rattle.store_records.specs.declared.Used.{Used}
use Rattle.compose_fst_op.specs.declared.ComposeFstOpOptions.{ComposeFstOpOptions}
use Rattle.compose_store.specs.Meaning.{session_under}

-- what a run leaves, with memory at its exit: "A run refused at a state returns the session of the expansions kept."
abbrev pub ran_left : ComposeFstOpOptions → Memory → Result Used (Refusal × Used) → Outcome (Unit {0})
ran_left o m (Ok after) = record { answer = good tt; session = session_under o after; memory = m }
ran_left o m (Err (refusal, kept)) = record { answer = refused (number_of refusal); session = session_under o kept; memory = m }

-- what one expansion of a run leaves: its list is stored, and no part of what a run answers
abbrev pub turned : Checked Part → Checked (Unit {0})
turned (good p) = good tt
turned (refused n) = refused n

abbrev pub turn_of : Outcome Part → Outcome (Unit {0})
turn_of o = record { answer = turned o.answer; session = o.session; memory = o.memory }
