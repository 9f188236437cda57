-- What the proof of taking an input rests on.
mod Filling
