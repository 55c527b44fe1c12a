pub mod Taken
pub mod Records
pub mod StoreView
pub mod Answers
pub mod Faults
pub mod Texts
