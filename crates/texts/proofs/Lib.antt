-- The proofs of what specs/ states. The definitions, run on examples.
pub mod Examples
pub mod QuestionExamples
-- On tokens: how a text is cut into them, which texts spell them, and how names are found.
pub mod Scanning
pub mod Fronts
pub mod Spelling
pub mod Plain
pub mod Finding
pub mod Lookups
pub mod Standing
pub mod Telling
pub mod Closing
pub mod Rising
-- On vocabularies: what their words are, and how they are read.
pub mod Lexicon
pub mod KindNames
pub mod Gathering
pub mod LexiconsRead
pub mod LexiconsExact
pub mod Begun
pub mod FreshNames
pub mod LexiconSoFar
pub mod LexiconFaults
pub mod Alike
pub mod KindNameFaults
pub mod LexiconFirst
pub mod LexiconsSpelt
-- On patterns and entries: how they are written ..
pub mod Saying
pub mod Spelt
-- .. how they are read ..
pub mod TermsRead
pub mod PhrasesRead
pub mod Fitting
pub mod TermsExact
pub mod PhrasesExact
-- .. and where the first fault is.
pub mod Locality
pub mod Completing
pub mod RootsStop
pub mod FirstFaults
-- On questions.
pub mod QuestionsRead
pub mod QuestionsExact
pub mod QuestionFaults
pub mod Walks
pub mod Verdicts
-- On whole texts, and on what is printed for them.
pub mod Passing
pub mod Series
pub mod Course
pub mod Beginnings
pub mod FilesRead
pub mod FilesExact
pub mod FileFaults
pub mod Entries
pub mod BookEntries
pub mod Blocks
pub mod EntryPhrases
pub mod Lines
pub mod BlocksSpelt
pub mod DeskSpelt
-- What fixes what.
pub mod Unique
-- All of it.
pub mod Theorems
