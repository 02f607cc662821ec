pub mod ListedIn
pub mod Tests
