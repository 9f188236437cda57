-- The pass over the bytes, and what it gives of a pattern.
pub mod Measuring
pub mod Patterns
