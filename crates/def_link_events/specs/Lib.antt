pub mod Events
pub mod Passed
pub mod Served
pub mod Taken
