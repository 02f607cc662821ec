pub mod WeightLaws
pub mod WordLaws
