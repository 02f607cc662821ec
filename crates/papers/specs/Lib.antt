-- Composition of weighted transducers as the papers define it, in reading order. Nothing here is computed from lists of moves: a composed transition is what the relation says.
-- A weighted transducer.
pub mod Machine
-- Its weights: semirings, and the two that are used.
pub mod Weight
-- A composition filter, and the papers' three.
pub mod Filter
-- Which of the composed paths of a pair each filter leaves.
pub mod Pick
-- The laws by which it leaves one.
pub mod Laws
-- The composition of two machines with a filter.
pub mod Composition
-- Which inner labels meet where one machine has a special label.
pub mod Sigma
-- Paths, accepting paths, matching pairs of paths.
pub mod Paths
-- The weight of a pair of words; what composition means.
pub mod Sums
