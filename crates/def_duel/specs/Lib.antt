pub mod Choices
pub mod Turns
pub mod Telling
pub mod Duels
