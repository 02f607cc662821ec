pub mod Storing
pub mod Chains
