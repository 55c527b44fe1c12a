pub mod Serving
pub mod Replies
pub mod Updates
pub mod Handling
pub mod Opening
pub mod Sides
pub mod Waiting
