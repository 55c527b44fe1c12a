pub mod Asked
pub mod Stops
pub mod Services
pub mod Program
