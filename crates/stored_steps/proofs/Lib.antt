pub mod OneStep
pub mod Rooms
pub mod AllSteps
pub mod Chains
