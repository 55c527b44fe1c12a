pub mod RestoredLines
pub mod Slots
pub mod Visits
pub mod LeftInOrder
pub mod Restores
pub mod KeyScripts
pub mod WholeRestores
