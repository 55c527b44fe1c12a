pub mod Prefixes
pub mod Collisions
pub mod Updates
pub mod SameName
pub mod InputLaws
pub mod UsedNames
pub mod Apart
pub mod SetupNames
pub mod LabelsApart
pub mod Known
pub mod DrawnOnce
pub mod CollisionTest
mod ToyBytes
mod Rows
mod ValueRows
mod Runs
pub mod Counts
pub mod NoDummies
pub mod KeyValues
pub mod Members
pub mod SentNumbers
pub mod BlocksWithin
pub mod Texts
pub mod SealedEntries
pub mod SetupGrammar
pub mod UpdateGrammar
pub mod Grammar
pub mod HistoryLaws
pub mod ExchangeLaws
pub mod LiveWords
pub mod RenewalRows
pub mod SetupEpochs
