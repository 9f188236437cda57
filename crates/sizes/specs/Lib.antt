-- What the contract of measuring a listing cites, and the law that fixes it.
pub mod Sizes
