pub mod Frames
pub mod PartsOfItems
pub mod FramesAt
pub mod SetupFrames
pub mod IndexCounts
pub mod IndexGrammar
pub mod SetupOf
pub mod PayloadLaws
mod KeyLaws
mod UpdateBytes
mod DifferLaws
mod PlanLaws
mod StandsForLaws
mod OrderedEntries
pub mod OwesLaws
pub mod ResumeLaws
mod ReplannedSetup
mod RenewalLaws
mod Rows
