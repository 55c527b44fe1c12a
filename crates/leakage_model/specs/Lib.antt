pub mod WordFacts
pub mod Pairs
pub mod PairsView
pub mod WordView
pub mod TrailFacts
