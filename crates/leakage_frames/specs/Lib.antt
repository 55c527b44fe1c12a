pub mod MadeFrames
pub mod Steps
pub mod Texts
pub mod Views
