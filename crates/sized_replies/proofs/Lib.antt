mod Pieces
pub mod SizeLaws
