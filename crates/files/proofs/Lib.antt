-- The laws behind the proofs of files.
pub mod Placing
pub mod Putting
