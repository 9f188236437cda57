-- The laws behind the proofs of together.
pub mod Together
