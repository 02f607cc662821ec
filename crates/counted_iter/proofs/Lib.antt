pub mod Counts
pub mod HandedOut
pub mod CountedCase
