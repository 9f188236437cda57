-- What the contracts of checking and loading a vocabulary cite.
--
--   Answers    document 01's number and values for each case of the answer
--   Tables     what loading a vocabulary gives
--   Settled    what loading it for a listing gives
--   Loading    what the private functions promise each other; no public contract cites it
pub mod Answers
pub mod Tables
pub mod Settled
pub mod Loading
