-- The lemmas that the proofs of the functions use.
pub mod Fronts
pub mod Flags
pub mod Tables
pub mod Heads
pub mod AtPlaces
pub mod AtTerms
