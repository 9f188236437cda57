-- What the contracts of pages cite.
pub mod Pages
