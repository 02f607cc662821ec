pub mod JudgedLaws
pub mod TrimLaws
