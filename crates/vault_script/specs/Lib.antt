pub mod VaultLines
pub mod VaultLineViews
pub mod VaultPrints
pub mod VaultShown
pub mod VaultStops
pub mod VaultTexts
