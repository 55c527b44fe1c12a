pub mod Updates
pub mod Recalls
pub mod Renewals
pub mod Rebuilds
