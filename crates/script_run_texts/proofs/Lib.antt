pub mod LineWords
pub mod TwinLines
