pub mod Owned
pub mod OwnersView
pub mod OwnedRecords
pub mod Handled
pub mod Rising
pub mod Isolation
pub mod Texts
