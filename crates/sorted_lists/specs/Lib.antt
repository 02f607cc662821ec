pub mod Runs
pub mod Longest
pub mod Seeks
pub mod Known
