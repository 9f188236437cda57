-- What the contract of taking an input cites.
pub mod Input
