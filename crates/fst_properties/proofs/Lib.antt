pub mod Falls
pub mod Fits
pub mod Bits
pub mod Walked
