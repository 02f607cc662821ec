-- What the checks tell of a found state, what its plain expansion leaves, and what labels that are taken as they stand tell.
pub mod Found
pub mod PlainLaws
pub mod Asked
