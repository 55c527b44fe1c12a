pub mod Faults
pub mod Openings
pub mod Recordings
pub mod Counts
pub mod DiskRuns
pub mod Shows
pub mod Unread
