pub mod FormLaws
pub mod FormRest
pub mod RecordForms
