pub mod ListWalk
pub mod ClearLaws
pub mod MoreTexts
pub mod SetupParts
