pub mod Reads
pub mod Meant
pub mod Numbered
pub mod UsedKeys
pub mod Stages
pub mod Turns
pub mod TwoScripts
pub mod Endings
