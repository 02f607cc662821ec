pub mod PartLaws
pub mod PartRest
