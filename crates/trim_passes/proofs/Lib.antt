pub mod KeptLaws
pub mod NumberLaws
pub mod RowLaws
pub mod RowsAre
