-- What the proofs of the functions rest on.
pub mod Whys
pub mod Names
pub mod Rows
pub mod Steps
pub mod Reading
