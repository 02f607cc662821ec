pub mod Stores
pub mod Turns
pub mod Edges
