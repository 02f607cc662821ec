pub mod Exported
pub mod Trusted
pub mod Caller
pub mod FanOutWords
