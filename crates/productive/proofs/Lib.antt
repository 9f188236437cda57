-- The loop over a pattern's bytes, and the one over the words.
pub mod Passing
pub mod Searching
-- What they find where the table is a vocabulary's.
pub mod Tabled
