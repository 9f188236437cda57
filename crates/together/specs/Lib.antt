-- What the contracts of together cite.
pub mod Together
