-- The laws that the proofs of match and part share.
--
--   Answers    different answers have different numbers
--   Calls      the answers of match and part keep the promises
pub mod Answers
pub mod Calls
