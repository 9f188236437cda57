-- What the contracts of list cite.
--
--   Answers    document 01's numbers and values for each case of the answer
--   Entering   what the private functions promise each other; no public contract cites it
--   Calls      the same, of the parts of the call
--   Sifting    the same, where kinds may have no complete situation
pub mod Answers
pub mod Entering
pub mod Calls
pub mod Sifting
