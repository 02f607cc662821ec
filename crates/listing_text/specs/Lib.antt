pub mod Ascii
pub mod Reading
pub mod Printing
pub mod Chunks
pub mod Ended
pub mod FanOutText
