pub mod ScanLaws
pub mod InputLaws
pub mod HeldLaws
