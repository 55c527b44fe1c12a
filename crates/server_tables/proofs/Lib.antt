mod BucketLemmas
pub mod Places
mod SlotLemmas
mod TableLemmas
