mod StopStatuses
mod RunStops
mod ForgedRuns
mod EndsRun
mod Meant
mod Headlines
mod WholeRun
mod RecordsKept
mod ResumedRun
mod HeldRuns
mod Unopened
pub mod OnlyReads
pub mod RecordsOpened
mod RecordsTaken
mod LastCommands
mod SentAgain
mod CaughtUp
mod HonestlyResumed
mod Restored
mod ResumedRuns
