-- The proofs that terms are written in words: terms, the places of a word, and a whole pattern or entry.
pub mod Saying
pub mod Placing
pub mod Phrases
