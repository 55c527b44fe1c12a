pub mod Exchanges
pub mod Served
pub mod Asks
pub mod ReplySizes
pub mod Texts
pub mod Recorded
pub mod Scripted
pub mod Loopbacks
