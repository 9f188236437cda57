-- The laws behind the proofs of verdicts. Steps over the tokens of a text, and the walk over a pattern and a situation.
pub mod Steps
pub mod Skipping
pub mod Walking
-- What is put on the page.
pub mod Drawing
pub mod Covering
-- The whole.
pub mod Fronts
pub mod Asked
