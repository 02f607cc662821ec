pub mod Alls
pub mod Weigh
pub mod Lookups
pub mod Serves
pub mod Plain
