-- The laws behind the proof of judging the inputs of match.
--
--   Answers    different answers have different numbers or values
--   Judging    the reply, by what reading the pattern and the situation tells
pub mod Answers
pub mod Judging
