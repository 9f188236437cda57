-- The laws behind the proofs of list. The answers differ.
pub mod Answers
-- Bytes written into a lent slice; the entries at one word.
pub mod Powers
pub mod Writing
pub mod Siblings
pub mod Following
-- The walk over the pattern, at the bits of a word and at a term.
pub mod Places
pub mod Terms
-- The pattern that is measured first, what no complete situation fits, and the whole call.
pub mod Linear
pub mod Sifting
pub mod Calls
