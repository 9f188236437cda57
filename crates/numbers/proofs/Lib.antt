-- The laws that the proofs over numbers share: the numbers of an answer say which reply it is.
pub mod Said
