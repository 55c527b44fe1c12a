pub mod KeyLaws
pub mod Rows
pub mod ToySum
