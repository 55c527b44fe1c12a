pub mod Beside
pub mod Clears
pub mod EpochAt
pub mod Given
pub mod Moved
pub mod Sides
pub mod SheetsTable
