pub mod ReadLaws
pub mod LinesRead
