-- The laws behind the proofs of others. Entries written one behind the other; an entry for each other word of a kind.
pub mod Entries
pub mod Writing
pub mod Siblings
