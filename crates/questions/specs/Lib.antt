-- What reading questions in words promises.
pub mod Asking
