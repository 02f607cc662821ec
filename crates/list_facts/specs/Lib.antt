pub mod Facts
pub mod Memo
