pub mod Turns
pub mod Handled
pub mod OwnersLasting
pub mod Connections
pub mod ConnectionSteps
pub mod RepliesLeft
pub mod OwnerConnections
pub mod Served
