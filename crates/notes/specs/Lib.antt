-- What the contracts of notes cite.
pub mod Notes
