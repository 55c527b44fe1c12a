pub mod Moments
mod Torn
mod Append
mod RepairSteps
mod FirstBytes
mod WalkSteps
pub mod Once
pub mod FileRecords
mod StartSteps
mod RecordAt
mod RefusedFiles
