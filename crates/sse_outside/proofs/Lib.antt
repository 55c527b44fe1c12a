pub mod DiskLaws
pub mod Known
mod Told
pub mod Fronts
