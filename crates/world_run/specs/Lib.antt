pub mod Commands
pub mod Sides
pub mod Sending
pub mod Worlds
pub mod Commanding
pub mod Starting
