-- The lemmas on reasons and their numbers.
pub mod Numbers
