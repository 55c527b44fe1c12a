pub mod Fronts
pub mod Recorded
pub mod Opened
pub mod Counts
pub mod HoldsExact
pub mod KeptOnDisk
pub mod NotBegun
