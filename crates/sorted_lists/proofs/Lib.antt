-- Lists of records with labels; lists along links; what a binary search finds; the longest run of a label; the turns and the ends of the search.
pub mod Falls
pub mod Along
pub mod Finds
pub mod Longest
pub mod Halves
pub mod Ends
