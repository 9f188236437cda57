-- The lemmas that the proofs of the functions use.
pub mod Readings
pub mod Appending
pub mod Gathering
