pub mod Chunks
pub mod LineLaws
pub mod SameListing
pub mod TextCases
pub mod SameFanOut
pub mod FanOutTextCases
pub mod FirstLines
