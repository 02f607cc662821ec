pub mod Serves
pub mod Planning
pub mod Storing
