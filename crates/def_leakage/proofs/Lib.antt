pub mod Places
pub mod Draws
pub mod Names
pub mod Covered
pub mod Law
pub mod SimulatorRuns
pub mod Epochs
pub mod Sessions
pub mod Fronts
pub mod ListedPairs
mod Rows
