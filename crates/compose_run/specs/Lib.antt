pub mod Meaning
pub mod Memos
