-- The laws behind the proofs of answers.
pub mod Answering
pub mod Clearing
