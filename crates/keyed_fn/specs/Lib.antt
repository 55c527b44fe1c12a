pub mod KeyedFn
pub mod KeyFormulas
pub mod DummyFormulas
pub mod VaultFormulas
pub mod Toy
pub mod ToyLaws
pub use Rattle.chacha_stream.specs.Xored
