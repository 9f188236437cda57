-- What the contracts of checking a term and of reading several inputs cite.
--
--   Answers    document 01's number and values for each case of the answer
--   Loaded     what reading a vocabulary and a pattern to be listed gives
--   Nodes      what the private functions promise each other of what stands where a term is due; no public contract cites it
--   Whole      what reading a term tells; no public contract cites it
--   Pairs      what reading a pattern and a situation gives
--   Values     what reading the inputs of fill gives
--   Books      what reading a vocabulary and a book gives
--   Names      what the private functions promise each other of the names that stood before; no public contract cites it
--   Cursors    the same, of where a reading stands
--   Full       the same, of complete terms
--   Terms      the same, of reading a term
--   Fillings   the same, of reading a filling file
pub mod Answers
pub mod Loaded
pub mod Nodes
pub mod Whole
pub mod Pairs
pub mod Values
pub mod Books
pub mod Names
pub mod Cursors
pub mod Full
pub mod Terms
pub mod Fillings
