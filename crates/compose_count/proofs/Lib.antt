-- Notes of steps, and what the loops note; what is held then; classes of triples; what the counts tell of the weighing.
pub mod NoteLaws
pub mod NoteEdges
pub mod HeldLaws
pub mod ClassLaws
pub mod RoomLaws
