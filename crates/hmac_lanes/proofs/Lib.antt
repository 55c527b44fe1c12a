pub mod LastBlock
pub mod TwoBlocks
