pub mod Answering
pub mod Clients
pub mod Commanding
pub mod Hearing
pub mod Histories
pub mod Starting
