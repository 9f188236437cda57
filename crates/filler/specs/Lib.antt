-- What the contract of fill cites, and what its parts promise each other.
--
--   Answers    document 02's number and values for each case of the answer
--   Ready      what measuring and writing the result rest on and promise; no public contract cites it
pub mod Answers
pub mod Ready
