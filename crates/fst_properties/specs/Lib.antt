pub mod RecordTests
pub mod Seen
