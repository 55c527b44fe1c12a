mod Acked
mod Asked
pub mod CountLaws
pub mod FaultLaws
mod Greeted
mod KeyLineRead
mod Begun
pub mod Exchanged
pub mod LinesTaken
mod Replies
pub mod Scripted
pub mod RecordersLeft
pub mod TurnsTaken
pub mod RightReplies
pub mod HonestRun
pub mod HonestTexts
pub mod FairRun
