pub mod Decimals
pub mod WrittenLaws
