-- The laws behind the proofs of report. Pieces put behind a text.
pub mod Putting
-- The pieces of each text, and the whole text: it is the one that is printed, and it has room.
pub mod Lines
pub mod Reported
