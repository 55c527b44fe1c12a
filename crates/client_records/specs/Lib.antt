pub mod Records
pub mod TakenMemory
pub mod RecordView
pub mod Faults
pub mod ReaderFaults
pub mod Openings
pub mod Recorded
