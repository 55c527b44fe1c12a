pub mod Zeros
pub mod ValueLaws
pub mod ShapeLaws
pub mod EpochTables
pub mod EpochSheets
