pub mod FieldsLemmas
pub mod LinesLemmas
pub mod NumberLemmas
pub mod TextLinesLemmas
mod Rows
