pub mod RunTurns
pub mod MemoTurns
pub mod OneTurn
