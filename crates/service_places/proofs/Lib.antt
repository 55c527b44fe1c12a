pub mod Chains
pub mod KeptFiles
pub mod KnownValues
