-- The proofs of what specs/ states: Theorems has all of them, Incident uses them, and BookExample computes some.
-- On lists and tests.
pub mod Bools
pub mod All
pub mod Occurs
pub mod Keep
pub mod Kept
pub mod Distinct
pub mod Count
pub mod First
pub mod Members
-- On terms and fillings.
pub mod Signature
pub mod Term
pub mod Ground
pub mod Binding
pub mod Fill
pub mod Matcher
pub mod Filling
-- On substitutions.
pub mod Variables
pub mod Sorts
pub mod Substitution
pub mod Replacing
-- On empty sorts.
pub mod Inhabited
-- On listings.
pub mod Entries
pub mod Fit
pub mod Fitted
pub mod Listing
pub mod Partition
pub mod StrikeOut
pub mod Represents
pub mod Settled
-- On books.
pub mod Nameless
pub mod Fresh
pub mod Sharing
pub mod CutEach
pub mod Cut
pub mod LeftBehind
pub mod BookListing
pub mod Book
pub mod BookRepresents
pub mod EarlierBooks
pub mod BookTurns
-- All of it.
pub mod Theorems
pub mod Incident
pub mod BookExample
pub mod EmptyExample
