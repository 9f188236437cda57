-- Laws of ranges of numbers.
pub mod Ranges
-- The loops that count and that chain.
pub mod Tallying
pub mod Chaining
-- The others of a word's kind.
pub mod Others
-- The others, one by one along a chain.
pub mod Following
-- One table of them.
pub mod Tabling
