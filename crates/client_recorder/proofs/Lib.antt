pub mod GrownRecords
mod KeptRecords
