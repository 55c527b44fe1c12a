pub mod LineDocument
pub mod Refused
pub mod LineFaults
pub mod Texts
