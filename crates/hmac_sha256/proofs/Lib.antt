pub mod KeyBlock
pub mod Codes
