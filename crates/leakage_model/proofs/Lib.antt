pub mod PairLaws
pub mod StepLaws
pub mod EntryLaws
pub mod PairEntries
pub mod BesideLaws
pub mod LeakLaws
pub mod SetupLaws
pub mod ListLaws
