-- What the contract of judging the inputs of match cites.
--
--   Answers    document 01's number and values for each case of the answer
--   Judged     what judging the inputs gives
pub mod Answers
pub mod Judged
