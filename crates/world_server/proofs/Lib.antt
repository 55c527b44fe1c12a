pub mod Serving
pub mod Steps
pub mod Counting
pub mod Handling
pub mod Sides
pub mod Refusals
pub mod Leading
