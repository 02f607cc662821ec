pub mod Numbers
pub mod Trimmed
pub mod Walked
pub mod Cases
pub mod Order
pub mod CallCases
