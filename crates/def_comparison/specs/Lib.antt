pub mod UsedNames
pub mod FirstDifference
pub mod Sums
