-- What the contracts of a cursor's methods cite.
pub mod Cursors
