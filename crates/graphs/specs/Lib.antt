pub mod Walks
pub mod StoreMachine
