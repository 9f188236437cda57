-- What the functions of books promise each other, and the answers' numbers.
pub mod Turning
pub mod Calls
pub mod Answers
