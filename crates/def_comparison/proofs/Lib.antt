pub mod UsedNames
pub mod FirstDifferences
pub mod SameLeaks
