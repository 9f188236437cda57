-- What the contracts of pheasantry cite.
pub mod Replies
