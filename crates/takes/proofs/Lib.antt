-- The laws behind the proofs of takes: what the tests tell, and what is left behind a pattern.
pub mod Tests
pub mod Taking
