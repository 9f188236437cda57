-- The lemmas that the proofs of the functions use.
pub mod Roots
pub mod RootTerms
pub mod Labels
