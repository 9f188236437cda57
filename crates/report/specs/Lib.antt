-- What the contracts of report cite.
--
--   Prints     what print promises
--   Putting    what is put where; no public contract cites it
--   Texts      what the private methods promise each other; no public contract cites it
pub mod Prints
pub mod Putting
pub mod Texts
