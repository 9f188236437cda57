-- What the contract of comparing a bit map of names cites.
pub mod Difference
