pub mod Seeks
pub mod Turns
pub mod Starts
pub mod Items
pub mod Held
pub mod Asking
pub mod AskingCase
