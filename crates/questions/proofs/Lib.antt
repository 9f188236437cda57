-- The lemmas that the proofs of the functions use.
pub mod Openings
pub mod Situations
pub mod Rounds
