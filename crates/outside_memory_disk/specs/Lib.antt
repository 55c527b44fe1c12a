pub mod DiskCalls
pub mod MemDisk
pub mod Picked
pub mod Recorded
pub mod SteadyDisk
