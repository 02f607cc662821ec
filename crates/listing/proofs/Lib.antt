pub mod LinesFit
pub mod WeightLaws
pub mod LineLaws
pub mod StageLaws
