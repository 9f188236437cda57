-- What the contracts of comparing and copying slices cite, and what is written piece by piece.
pub mod Equal
pub mod Copied
pub mod Written
