pub mod KeptIds
pub mod LiveIds
pub mod Counting
pub mod Pushing
pub mod Copying
pub mod Renewed
