pub mod FilterCells
