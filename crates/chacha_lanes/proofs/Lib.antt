mod BlockWords
mod Pads
mod Rotations
