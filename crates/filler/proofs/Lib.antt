-- The laws behind the proofs of measuring and writing the result of fill.
--
-- On a pattern's bytes, passed node by node.
pub mod Nodes
pub mod Filled
pub mod Levels
-- On the values in a filling file.
pub mod Starts
pub mod Reach
-- The loops.
pub mod Putting
pub mod Begun
pub mod Counting
pub mod Measuring
pub mod Answers
pub mod Calls
