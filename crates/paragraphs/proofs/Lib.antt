-- The laws behind the proofs of paragraphs.
pub mod Offsets
pub mod Checking
pub mod Courses
pub mod Asking
pub mod Putting
