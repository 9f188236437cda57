-- What reading the paragraphs of a text, and putting what is printed for them, promises.
pub mod Paragraphs
