-- What putting the answer for a text that is in order promises.
pub mod Puts
