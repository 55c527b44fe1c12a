pub mod NewEntry
