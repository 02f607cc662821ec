pub mod OpenedRoom
pub mod Bounds
pub mod Ignoring
pub mod FanOutCases
