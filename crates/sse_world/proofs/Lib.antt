pub mod Rules
pub mod Counting
pub mod Delivering
pub mod Reached
