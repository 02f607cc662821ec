pub mod StoreLaws
pub mod StoreTurns
pub mod ExpandLaws
pub mod Cases
