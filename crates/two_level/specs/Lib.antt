pub mod Shape
pub mod ShapeFault
pub mod Plan
pub mod Planned
pub mod Laid
pub mod Opened
pub mod Read
pub mod Texts
