pub mod Fronts
pub mod FrameGrammar
pub mod ReplyGrammar
pub mod SlotMaps
pub mod Prepared
pub mod Pushing
pub mod Replaying
pub mod Once
pub mod Starting
pub mod Maybe
mod Staying
