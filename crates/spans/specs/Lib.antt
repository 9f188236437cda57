-- What the contract of finding the spans of a pattern cites.
--
--   Answers    document 01's number and values for each case of the answer
--
-- What the private functions promise each other; no public contract cites it.
--
--   Frames     the maps of words as they are gone through
--   Spans      what is noted of names on the way
--   Walking    what is due of a pattern and a situation, and what the walk answers
--   Front      what the walk promises that goes over bytes that nobody has read yet
pub mod Answers
pub mod Frames
pub mod Spans
pub mod Walking
pub mod Front
