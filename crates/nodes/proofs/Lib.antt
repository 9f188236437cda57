-- The laws that the proofs of comparing nodes share.
--
--   Same    nodes that two lists of bytes share, one by one and by blocks
pub mod Same
