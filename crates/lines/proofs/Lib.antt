-- The laws behind the proofs of lines. Counts over a text, and the line of a number.
pub mod Counting
pub mod Lines
