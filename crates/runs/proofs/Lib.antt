-- The laws that the proofs of comparing words share.
--
--   Shared    words that two lists of bytes share, one by one and by blocks
pub mod Shared
