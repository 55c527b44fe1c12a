mod Ranges
mod OneGiven
pub mod Pieces
pub mod DiskCauses
pub mod GrownLists
