mod VisitLaws
mod ScanLaws
mod Judged
mod KeyScriptRead
mod Fetched
mod StopKinds
mod HonestSlots
pub mod HonestScan
mod Restored
mod WholeRuns
