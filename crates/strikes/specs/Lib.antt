-- What striking an area promises, and what its functions promise each other.
pub mod Calls
pub mod Striking
