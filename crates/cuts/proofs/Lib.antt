-- The laws behind the proofs of cuts. An entry for each other word of a kind, and a term of the entry that is taken over.
pub mod OwnEntries
pub mod Over
-- The terms at the places of a word.
pub mod Pairs
pub mod Words
-- Entries cut behind others.
pub mod Ending
-- The walk over an entry and a pattern, at the places of a word and at a term.
pub mod Walking
pub mod Places
pub mod Turns
pub mod Terms
pub mod Measures
-- The walk from the roots.
pub mod Starting
