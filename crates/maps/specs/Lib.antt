-- What the contracts of reading and writing a map cite.
pub mod Reading
pub mod Writing
