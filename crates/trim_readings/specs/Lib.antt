pub mod TrimPaths
pub mod TrimClaims
