mod PrintedLaws
pub mod QueryLaws
