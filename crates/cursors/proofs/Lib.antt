-- The laws of a cursor's steps.
pub mod Laws
