-- Document 01 in its own order, as definitions that compute: machines, and one state of the composition. Memory, session, calls and the listing come above.
-- First paragraph, and "Answers": words, labels, numbered refusals.
pub mod Labels
-- "From the leaves upward": weights; matches and the sorted look-up.
pub mod Weights
pub mod Matches
-- "A machine in words", but for its last sentence (accepting paths and their exact weight: crate papers, and AsPapers below)
pub mod Machines
-- "Choosing the side", first paragraph.
pub mod Sides
-- "Filters".
pub mod Filters
-- "Sigma".
pub mod Sigmas
-- 02, 2.7: the ignored labels.
pub mod Ignored
-- "Choosing the side", second paragraph: the moves of a triple in their order, its final weight.
pub mod Steps
-- "Session and memory": the six settings, the machines and lists that every call is lent.
pub mod Settings
-- "A machine in words", last sentence, exact weights; and the composition above as the papers' one.
pub mod AsPapers
-- What is proved of the two: 01's lists are exactly the papers'.
pub mod Links
