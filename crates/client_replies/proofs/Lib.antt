pub mod Replied
pub mod Appended
pub mod InOrder
pub mod PagesTaken
