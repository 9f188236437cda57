-- What the contract of meet cites, and the law that fixes it.
--
--   Passing    a term that is passed
--   Walking    what meet answers, on bytes and on trees
--   Inside     what the private functions need; no public contract cites it
pub mod Passing
pub mod Walking
pub mod Inside
