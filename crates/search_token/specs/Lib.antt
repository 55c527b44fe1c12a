pub mod TokenKeys
pub use Rattle.keyed_fn.specs.KeyedFn
pub use Rattle.keyed_fn.specs.KeyFormulas
pub use Rattle.keyed_fn.specs.Xored
