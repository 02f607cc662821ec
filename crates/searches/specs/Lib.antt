pub mod WorkWords
pub mod UsefulSearch
pub mod StoreLinks
