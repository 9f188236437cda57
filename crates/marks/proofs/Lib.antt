-- The bits of maps.
pub mod Bits
-- The function that notes a term.
pub mod Noting
-- On trees: what stands at an offset, and the notes.
pub mod Standing
pub mod Marks
