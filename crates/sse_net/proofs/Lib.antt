mod Modes
mod Streams
