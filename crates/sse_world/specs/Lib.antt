pub mod Stands
pub mod Reached
pub mod Sent
