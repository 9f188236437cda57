-- The laws behind the proofs of telling what is due. Names and records by their numbers.
pub mod Tables
-- The words of a kind, and the commas that are counted.
pub mod Alternatives
pub mod Commas
