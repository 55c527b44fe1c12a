pub mod HashNumbers
pub mod KeyPair
pub mod PadName
pub use Rattle.keyed_fn.specs.KeyedFn
pub use Rattle.keyed_fn.specs.KeyFormulas
pub use Rattle.keyed_fn.specs.VaultFormulas
pub use Rattle.keyed_fn.specs.Xored
pub use Rattle.search_token.specs.TokenKeys
