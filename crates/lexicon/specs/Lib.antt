-- What the contracts of reading a vocabulary in words cite.
pub mod Rows
pub mod Stages
pub mod Answers
