pub mod PartsLemmas
pub mod NumbersLemmas
pub mod LeadingLemmas
pub mod Written
pub mod Rows
