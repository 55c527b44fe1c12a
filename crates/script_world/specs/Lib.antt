pub mod WorldLines
pub mod WorldLineViews
pub mod WorldTexts
