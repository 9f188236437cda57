-- The laws behind the proofs of loading a vocabulary. The answers differ.
pub mod Answers
-- Its bytes, then its records, then the kinds that have complete situations, then all of it.
pub mod KindBytes
pub mod RecordBytes
pub mod Laid
pub mod WordsUpTo
pub mod RecordsRead
pub mod Marking
pub mod Rounds
pub mod Moving
pub mod VocabularyLoaded
-- What the tables of an accepted vocabulary hold.
pub mod Accepted
pub mod Settling
-- The numbers of places of two vocabularies.
pub mod CountedExample
