pub mod Rfc8439
pub mod Pad
pub mod Xored
