mod Bodies
pub mod TakenFrames
pub mod AnswerLaws
pub mod ReplaySteps
pub mod Once
pub mod StartedStore
