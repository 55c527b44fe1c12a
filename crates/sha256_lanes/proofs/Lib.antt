pub mod Lanes
mod Rotations
