-- What the contract of mark cites, and the law that fixes it.
--
--   Marking    what mark notes, on bytes and on trees
--   Inside     what the private functions need; no public contract cites it
pub mod Marking
pub mod Inside
