pub mod Given
pub mod LeakReport
