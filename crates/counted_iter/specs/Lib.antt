pub mod Counted
pub mod HandedOut
