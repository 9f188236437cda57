-- What reading terms in words promises.
pub mod Reading
