pub mod OwnKeys
pub mod ByKeys
