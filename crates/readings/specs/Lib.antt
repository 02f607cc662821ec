-- What the theorem on readings states, in reading order.
-- One to one and onto, or onto alone, with both maps in hand.
pub mod Correspondence
-- The one composed path of two paths.
pub mod Merge
-- The statement.
pub mod Readings
-- Composed paths as places in the lists of the states that they pass.
pub mod Places
-- 01's lists as such lists.
pub mod Listed
-- Demand 3 over lists of calls: the worlds of a list, what is answered there, then 3a, 3b and 3c; demand 2b, what of it the papers say; and both whole.
pub mod Worlds
pub mod Answers
pub mod Again
pub mod Larger
pub mod StorePaths
pub mod LentPaths
pub mod Follows
pub mod Demands
-- 02, 2.1: what holds of null, trivial and no-match in place of 3c.
pub mod Further
-- What a caller that owns its memory may do beside these calls.
pub mod Owned
