-- Lists of a plan; the plain direction and look-up; that the bounds shut out every refusal; that a plan's steps are those of the state.
pub mod Lists
pub mod Plain
pub mod Sorted
pub mod Fitting
pub mod Walked
pub mod Planned
pub mod Ready
pub mod Verdicts
