-- Entries written one behind the other, and an entry for each other word of a kind.
pub mod Listed
pub mod Others
