pub mod Asked
pub mod Compared
pub mod ComparisonViews
pub mod Made
pub mod Program
