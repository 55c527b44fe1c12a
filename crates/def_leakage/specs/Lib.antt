pub mod Firsts
pub mod CommandLeaks
pub mod DrawnValues
pub mod Histories
pub mod Relabelled
