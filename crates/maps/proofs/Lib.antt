-- Proofs about reading and writing a map.
pub mod Reading
pub mod Writing
