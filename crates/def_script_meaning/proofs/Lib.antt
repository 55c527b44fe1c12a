mod Rows
pub mod Steps
pub mod Outcomes
pub mod Renewals
pub mod Kept
pub mod Within
pub mod Whole
pub mod FollowedPlaces
pub mod MarksApart
pub mod MarksJoined
pub mod GoneAsMeant
pub mod RunGoes
pub mod Honest
pub mod PartsLeft
pub mod Acknowledged
pub mod Sent
pub mod Simulated
pub mod Recorded
pub mod Headline
pub mod Stepped
pub mod QueryWords
pub mod QueryLaws
pub mod UpdatesLeft
pub mod SinceLaws
pub mod TakenLast
pub mod UpdatesAlone
pub mod SimulatedAfter
pub mod ContinuedSessions
pub mod RejoinedSessions
pub mod JoinedSessions
pub mod LeftServers
pub mod RecordedBehind
pub mod SessionsInARow
mod RunRows
mod UpdateRows
mod ContinuedRows
mod ClashRows
