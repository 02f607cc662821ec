pub mod FanOut
pub mod Ignoring
