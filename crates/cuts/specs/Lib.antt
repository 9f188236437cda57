-- What a cut promises, and what its functions promise each other.
pub mod Entries
pub mod Calls
pub mod Walking
pub mod Own
pub mod Cutting
