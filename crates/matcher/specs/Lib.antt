-- What the contracts of match and part cite.
--
--   Answers    document 01's number and values for each case of match's answer
--   Places     where in the lent situation the answer of part stands
pub mod Answers
pub mod Places
