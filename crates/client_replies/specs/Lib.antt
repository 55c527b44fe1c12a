pub mod Faults
pub mod Gathered
pub mod Pages
pub mod Texts
