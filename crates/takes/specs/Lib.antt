-- What taking a pattern of a book against an area of entries promises.
pub mod Told
pub mod Taking
