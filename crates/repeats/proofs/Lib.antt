-- The laws behind the proof of looking for a repeated name.
pub mod Passing
pub mod Repeating
