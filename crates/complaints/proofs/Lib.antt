-- The laws behind the proofs of telling faults. What is said of reasons.
pub mod Said
-- The bytes of the line that is shown.
pub mod Drawing
-- The whole.
pub mod Told
