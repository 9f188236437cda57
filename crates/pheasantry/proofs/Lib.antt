-- The laws that the proofs of the exported calls share.
--
--   Replies    the numbers of an answer say which reply it is, and keep the promises
--   Parts      where the part of a name stands
pub mod Replies
pub mod Parts
