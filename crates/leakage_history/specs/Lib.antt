pub mod Commands
pub mod HashedRun
pub mod HashedEpochs
pub mod Refusal
pub mod Renewals
pub mod HistoryView
pub mod EpochsView
