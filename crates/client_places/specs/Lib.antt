pub mod Events
pub mod MemPlaces
