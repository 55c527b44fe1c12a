-- A setup is that of its parts.
use Rattle.std.proofs.Common.{◌≡◌, ℕ, List}
use Rattle.client_registry.specs.Document.{Document}
use Rattle.client_registry.specs.Setup.{Setup, setup_with}

pub same_setup : (s : Setup) (docs : List Document) (b big pad : ℕ) → docs ≡ s.documents → b ≡ s.shape.b → big ≡ s.shape.big → pad ≡ s.pad → setup_with docs b big pad ≡ s
same_setup s docs b big pad ds bs bigs pads = λ i. record { documents = ds i; shape = record { b = bs i; big = bigs i }; pad = pads i }
