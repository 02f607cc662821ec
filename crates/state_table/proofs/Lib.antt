pub mod ChainTurns
pub mod FindRest
pub mod Placed
