-- The laws of pages, loops that put pieces, and the digits of a number.
pub mod Pages
pub mod Turns
pub mod Digits
