pub mod Replayed
pub mod Behind
pub mod PickedImages
