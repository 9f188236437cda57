-- What reading patterns in words promises.
pub mod Phrases
