-- What the contracts of writing a vocabulary's bytes cite.
pub mod Encoded
