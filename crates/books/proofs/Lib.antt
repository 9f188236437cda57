-- The laws behind the proofs of books: one pattern after the other, and the call.
pub mod Finishing
pub mod Turning
pub mod Beginning
pub mod Rooms
pub mod Calls
