pub mod Blocks
pub mod FirstBlocks
pub mod Streams
pub mod Rows
pub mod Laws
