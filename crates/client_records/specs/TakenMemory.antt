-- The bytes of a record up to where a reader first takes memory: for the words of a document.
use Rattle.std.specs.Prelude.{◌≡◌, ℕ, ◌⊎◌, ◌^◌, ◌<◌, ◌≤◌, List, ◌∷◌, ◌++◌, length, drop}
use Rattle.std.specs.Int.{w16, w32, w64, to_be_bytes}
use Rattle.std.specs.List.{flat_map}
use Rattle.client_registry.specs.Document.{Document}
use Rattle.client_registry.specs.Documents.{IsCollected}
use Rattle.client_records.specs.Records.{document_field}

-- a document begins: its identifier and how many words it has
pub record BeginsDocument (bytes : List ℕ) : Type 0 where
  pub id : ℕ
  pub count : ℕ
  pub rest : List ℕ
  pub least : 1 ≤ id
  pub fits : id < 2 ^ 64
  pub are : bytes ≡ to_be_bytes w64 id ++ (to_be_bytes w16 count ++ rest)

-- so many documents begin: those before one are whole and collected for a setup, and that one begins
pub record BeginsDocuments (count : ℕ) (bytes : List ℕ) : Type 0 where
  pub before : List Document
  pub rest : List ℕ
  pub collected : IsCollected before
  pub fewer : length before < count
  pub are : bytes ≡ flat_map document_field before ++ rest
  pub begins : BeginsDocument rest

-- the documents of a setup begin, after how many they are
pub record BeginsCounted (bytes : List ℕ) : Type 0 where
  pub count : ℕ
  pub rest : List ℕ
  pub fits : count < 2 ^ 32
  pub are : bytes ≡ to_be_bytes w32 count ++ rest
  pub begins : BeginsDocuments count rest

-- memory is taken for the document of an addition, after its first byte; for those of a setup, after the 22 bytes of its mark, b, B
-- and Q; for those of an older one, after the 20 of its mark, b and B; and for no other record
abbrev pub TakesMemory : List ℕ → Type 0
TakesMemory payload = (rest : List ℕ) × (
    ((payload ≡ 0x12 ∷ rest) × BeginsDocument rest)
    ⊎ ((payload ≡ 0x14 ∷ rest) × BeginsCounted (drop 22 rest))
    ⊎ ((payload ≡ 0x11 ∷ rest) × BeginsCounted (drop 20 rest)))
