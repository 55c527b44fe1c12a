pub mod Grown
pub mod GrownEpochs
pub mod TheoremA
pub mod TurnsTell
