-- The laws behind the proofs of tails.
pub mod Tailing
