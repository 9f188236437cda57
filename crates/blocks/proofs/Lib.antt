-- The laws behind the proofs of blocks.
pub mod Blocks
