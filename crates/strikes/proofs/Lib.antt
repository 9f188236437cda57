-- The laws behind the proofs of strikes. Entries put behind others; an area of them, taken against one pattern.
pub mod Putting
pub mod Striking
pub mod Area
pub mod Marking
