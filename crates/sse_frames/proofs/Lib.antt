pub mod Faults
pub mod ListFields
pub mod Cut
pub mod FrameBodies
pub mod AscendingFields
pub mod Chunks
mod Puts
pub mod Numbers
pub mod Ids
pub mod ReplyBodies
pub mod Pages
mod Rows
pub mod Joined
pub mod FrameBytesLaws
pub mod Heads
pub mod ReplyBytesLaws
pub mod Stands
pub mod InFront
pub mod NoFault
pub mod ReplyNoFault
pub mod Only
pub mod Sorted
pub mod Replied
pub mod AnswerPages
