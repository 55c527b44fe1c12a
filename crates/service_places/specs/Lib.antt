pub mod Stops
pub mod Asked
pub mod Places
pub mod Untouched
pub mod Endings
