-- One list copied into another.
pub mod Copying
-- Bytes written one behind the other.
pub mod Writing
