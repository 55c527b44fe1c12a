mod DocumentsLaws
mod SetupLaws
pub mod MadeOutcome
