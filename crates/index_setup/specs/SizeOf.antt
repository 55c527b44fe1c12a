-- The size of an index, and the setup that it is of.
use Rattle.std.specs.Prelude.{◌≡◌, List, None, length}
use Rattle.client_registry.specs.Acceptance as counts
use Rattle.client_registry.specs.Document.{Document}
use Rattle.client_registry.specs.Documents.{words_of}
use Rattle.client_registry.specs.Setup.{Setup, setup_with}
use Rattle.client_registry.specs.declared.size.Size.{Size}
use Rattle.index_setup.specs.Built.{Built}

-- the setup of these documents at the parameters of a size
abbrev pub setup_sized : List Document → Size → Setup
setup_sized docs size = setup_with docs size.shape.b size.shape.big size.pad

-- the size is that of an accepted setup of these documents
pub record IsSizeOf (docs : List Document) (size : Size) : Type 0 where
  pub accepted : counts.size_refusal (setup_sized docs size) ≡ None
  pub own_words : size.words ≡ length (words_of docs)
  pub own_blocks : size.blocks ≡ counts.blocks_of (setup_sized docs size)
  pub padded_words : size.padded_words ≡ counts.padded_words (setup_sized docs size)
  pub padded_blocks : size.padded_blocks ≡ counts.padded_blocks (setup_sized docs size)

-- an index has the parameters and the counts of a size
pub record HasSize (index : Built) (size : Size) : Type 0 where
  pub b : index.b ≡ size.shape.b
  pub big : index.big ≡ size.shape.big
  pub pad : index.pad ≡ size.pad
  pub words : index.words ≡ size.padded_words
  pub blocks : index.blocks ≡ size.padded_blocks
  pub own_words : index.own_words ≡ size.words
  pub own_blocks : index.own_blocks ≡ size.blocks
