pub mod Store
pub mod Forms
pub mod Checks
pub mod Calls
pub mod Sequences
pub mod Owned
pub mod Listing
-- 02, 2.7: what a list of ignored labels changes.
pub mod Ignoring
-- 02, 2.8: what a sigma label in it changes.
pub mod Exempting
