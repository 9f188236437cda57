-- What the contracts of comparing a pattern and a situation by their bytes cite.
--
--   Alike     a pattern and a situation that can be gone through side by side
--   Shared    words that two lists of bytes share
pub mod Alike
pub mod Shared
