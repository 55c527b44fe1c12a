pub mod Honest
pub mod Taken
mod Rows
