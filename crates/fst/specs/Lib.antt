pub mod Meaning
pub mod Refusals
