-- The laws of frames, for the functions here and for what is due at a cursor.
pub mod Frames
