pub mod Pages
pub mod ReplySizes
mod Handled
mod Kept
mod StoreSteps
pub mod Stored
mod ReachedLaws
