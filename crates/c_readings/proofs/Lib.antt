pub mod LargerRecords
pub mod Trusted
pub mod TrustedCase
