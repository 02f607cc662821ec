pub mod Weigh
pub mod Windows
pub mod Meaning
