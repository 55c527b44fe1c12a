pub mod Words
pub mod Twins
pub mod Inputs
pub mod LineWords
pub mod LineResultViews
pub mod Stops
pub mod Causes
