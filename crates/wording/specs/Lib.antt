-- What the contracts of wording cite.
--
--   Tables     the tables that are lent
--   Says       what the private functions promise each other; no public contract cites it
pub mod Tables
pub mod Says
