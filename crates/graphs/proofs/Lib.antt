pub mod Few
pub mod Shorten
pub mod Useful
pub mod StoreLaws
pub mod Entered
