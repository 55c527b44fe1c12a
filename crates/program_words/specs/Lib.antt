pub mod Commands
pub mod Hyphens
pub mod Modes
pub mod Numbers
pub mod Owners
