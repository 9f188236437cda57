-- The laws that the proofs of finding the spans of a pattern share.
--
--   Offsets    what stands at an offset of bytes
--   Counts     the bits of four maps, counted in one number
--   Ending     where a ground term ends
--   Parts      what a name covers
--   Joined     matching and spans of terms that stand one behind the other
--   Marks      what maps and frames say of the terms that are due
--   Bound      what matching a name does to what a filling gives it
--   Noted      what is noted of a name
--   Side       the two terms that are due first, and the turn at an open place
--   Words      the turn at a word
--   Names      the turn at a name
--   Begin      what is due before the first turn of a walk, and what follows behind the last
--   Going      the turns of a walk while no open place is due
--   Turns      the turns of the walk over bytes that nobody has read yet
--   Framing    the turns of a walk through a word that has open places
--   Left       .. come to an end
--   Root       a name or 255 at the root
--   Finding    the answers are those of match for a blank table
--   Answers    different answers have different numbers
pub mod Offsets
pub mod Counts
pub mod Ending
pub mod Parts
pub mod Joined
pub mod Marks
pub mod Bound
pub mod Noted
pub mod Side
pub mod Words
pub mod Names
pub mod Begin
pub mod Going
pub mod Turns
pub mod Framing
pub mod Left
pub mod Root
pub mod Finding
pub mod Answers
