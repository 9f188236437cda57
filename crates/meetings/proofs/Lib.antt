-- A term that is passed.
pub mod Passing
-- The functions that meet.
pub mod Coming
-- On trees.
pub mod Meets
