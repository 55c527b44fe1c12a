pub mod LinesLemmas
pub mod DropLemmas
pub mod PrintedLemmas
pub mod FieldsLaws
pub mod ReadingLaws
mod Rows
