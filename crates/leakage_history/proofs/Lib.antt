pub mod Refusals
pub mod FirstSeen
pub mod EpochLaws
pub mod LiveFaults
pub mod EpochLists
