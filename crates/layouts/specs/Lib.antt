pub mod Layout
pub mod SameRecords
