-- What the contracts of counting and chaining the words of each kind cite.
pub mod Kinds
