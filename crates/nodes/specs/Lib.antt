-- What the contracts of comparing nodes cite.
--
--   Same    nodes that two lists of bytes share
pub mod Same
