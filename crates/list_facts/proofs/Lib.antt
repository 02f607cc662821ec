pub mod Pass
pub mod Told
pub mod Entries
pub mod FactLaws
