mod ListsWithin
mod KeyTags
mod RankLaws
pub mod RankWrites
pub mod TagLists
mod FlatLists
mod WrittenBack
mod PlacedLaws
mod AddedWords
mod ListSteps
mod EntryPlaces
mod ListWrites
mod DummyWrites
mod PlacedSorted
pub mod AcceptedLaws
pub mod BuildErrors
pub mod SortedIndex
