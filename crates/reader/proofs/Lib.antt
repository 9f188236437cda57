-- The laws behind the proofs of reading a term.
pub mod Answers
pub mod Names
pub mod Nodes
pub mod Standing
pub mod Levels
pub mod Tables
pub mod Full
pub mod Cursors
pub mod FullSteps
pub mod Turns
pub mod Steps
pub mod Places
-- The values of a filling file.
pub mod Faults
pub mod Values
pub mod Listed
pub mod Tabling
pub mod Skipping
-- A term that is handed to a call, and the vocabulary's check and the terms' together.
pub mod Told
pub mod NameTables
pub mod Pairs
pub mod Calls
pub mod Files
-- The replies that refuse.
pub mod Refused
-- A pattern to be listed.
pub mod Loaded
-- A book.
pub mod Fronts
pub mod Books
pub mod BookTables
