pub mod LastLaws
pub mod RenewalLaws
pub mod RebuildLaws
pub mod RebuiltHistory
pub mod Finished
