-- What gathering the patterns of a kind promises.
pub mod Courses
pub mod Gathering
