pub mod EntryLemmas
mod CellLemmas
pub mod Laws
mod Rows
mod SearchLemmas
mod PlaceLemmas
mod PassLemmas
pub mod WalkLaws
