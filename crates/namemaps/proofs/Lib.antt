-- The laws behind the proofs of comparing a bit map of names.
pub mod Lowest
pub mod Comparing
