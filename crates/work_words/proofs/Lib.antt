pub mod FieldLaws
pub mod ClearLaws
