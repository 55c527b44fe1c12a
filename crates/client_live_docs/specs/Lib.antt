pub mod AreLive
pub mod LiveAfter
pub mod Counts
