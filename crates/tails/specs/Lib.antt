-- What putting what stands behind the patterns promises.
pub mod Tails
