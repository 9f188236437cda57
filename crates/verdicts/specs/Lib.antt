-- What the contracts of verdicts cite.
--
--   Putting           what putting a question promises
--   Steps, Parts      what the private functions promise each other; no public contract cites them
pub mod Putting
pub mod Steps
pub mod Parts
