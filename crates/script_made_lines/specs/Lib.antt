pub mod Words
pub mod Lines
pub mod Script
pub mod ReadLines
pub mod Summary
pub mod SummaryViews
pub mod Buffer
pub mod Source
