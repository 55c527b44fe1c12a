pub mod Prints
pub mod Stopping
pub mod Exactly
mod NumbersJoined
mod Rising
pub mod OneTree
pub mod QueryOf
pub mod FirstBad
pub mod ReadResults
pub mod Accepted
pub mod FieldLaws
