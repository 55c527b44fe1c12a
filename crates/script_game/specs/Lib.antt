pub mod GameWords
pub mod GameRule
pub mod GameDocuments
pub mod GameTexts
pub mod RuleRuns
