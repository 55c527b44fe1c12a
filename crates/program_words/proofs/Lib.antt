pub mod CountReading
pub mod DiskReading
pub mod HyphenLaws
pub mod LocalReading
pub mod NumberLemmas
mod OwnerLaws
pub mod Readings
mod Rows
