-- The records of a client's journal: the bytes of each, and the record that bytes are (docs/FORMATS.md).
use Rattle.std.specs.Prelude.{◌≡◌, ℕ, ◌⊎◌, ◌^◌, ◌<◌, ◌≤◌, List, [], ◌∷◌, ◌++◌, length, map, filter}
use Rattle.std.specs.Int.{w16, w32, w64, to_be_bytes}
use Rattle.std.specs.List.{flat_map}
use Rattle.client_registry.specs.Command.{Command, Add, Delete, Search, is_update}
use Rattle.client_registry.specs.Document.{Document}
use Rattle.client_registry.specs.DocumentRule.{IsDocument}
use Rattle.client_registry.specs.Documents.{IsCollected}
use Rattle.client_registry.specs.Run.{Run}
use Rattle.client_registry.specs.Setup.{Setup}

-- a word: how many bytes it has, and its bytes
abbrev pub word_field : List ℕ → List ℕ
word_field word = length word ∷ word

-- a document: its identifier, how many words it has, and each of them
abbrev pub document_field : Document → List ℕ
document_field d = to_be_bytes w64 d.id ++ to_be_bytes w16 (length d.words) ++ flat_map word_field d.words

-- documents: how many there are, and each of them
abbrev pub documents_field : List Document → List ℕ
documents_field docs = to_be_bytes w32 (length docs) ++ flat_map document_field docs

-- the record of a setup under the key of this mark: the mark, b, B, Q and the documents
abbrev pub setup_record : List ℕ → Setup → List ℕ
setup_record mark s =
    0x14 ∷ mark ++ to_be_bytes w16 s.shape.b ++ to_be_bytes w16 s.shape.big ++ to_be_bytes w16 s.pad ++ documents_field s.documents

-- the older record of a setup, with no Q
abbrev pub old_setup_record : List ℕ → Setup → List ℕ
old_setup_record mark s =
    0x11 ∷ mark ++ to_be_bytes w16 s.shape.b ++ to_be_bytes w16 s.shape.big ++ documents_field s.documents

-- the record of an update: the document of an addition, the identifier of a deletion; a search has none
abbrev pub update_record : Command → List ℕ
update_record (Add d) = 0x12 ∷ document_field d
update_record (Delete id) = 0x13 ∷ to_be_bytes w64 id
update_record (Search word) = []

-- the records of a setup and the commands after it, where the key has this mark: that of the setup, then those of the updates
abbrev pub records_of : List ℕ → Run → List (List ℕ)
records_of mark run = setup_record mark run.setup ∷ map update_record (filter is_update run.later)

-- the record of a renewal of the key under that of this mark
abbrev pub renewal_record : List ℕ → List ℕ
renewal_record mark = 0x15 ∷ mark

-- what a record says
pub data RecordText : Type 0 where
  -- this setup was made under the key of this mark
  SetsUp : (mark : List ℕ) (setup : Setup) → RecordText
  -- this document was added
  Adds : Document → RecordText
  -- the document of this identifier was deleted
  Deletes : ℕ → RecordText
  -- the key was renewed, under that of this mark
  Rekeys : (mark : List ℕ) → RecordText

-- a mark of 16 bytes, three numbers of 16 bits, and documents that are collected for a setup
pub record IsSetupText (mark : List ℕ) (s : Setup) : Type 0 where
  pub mark_size : length mark ≡ 16
  pub b_fits : s.shape.b < 2 ^ 16
  pub big_fits : s.shape.big < 2 ^ 16
  pub pad_fits : s.pad < 2 ^ 16
  pub collected : IsCollected s.documents

-- the limits of what a record says
abbrev pub IsText : RecordText → Type 0
IsText (SetsUp mark s) = IsSetupText mark s
IsText (Adds d) = IsDocument d
IsText (Deletes id) = (1 ≤ id) × (id < 2 ^ 64)
IsText (Rekeys mark) = length mark ≡ 16

-- the bytes say it: a setup with a Q of 1 in either of two ways, all else in one
abbrev pub Spells : List ℕ → RecordText → Type 0
Spells payload (SetsUp mark s) = (payload ≡ setup_record mark s) ⊎ ((s.pad ≡ 1) × (payload ≡ old_setup_record mark s))
Spells payload (Adds d) = payload ≡ update_record (Add d)
Spells payload (Deletes id) = payload ≡ update_record (Delete id)
Spells payload (Rekeys mark) = payload ≡ renewal_record mark

-- the bytes are a record, to their last one, and this is what it says
pub record IsRecordOf (payload : List ℕ) (text : RecordText) : Type 0 where
  pub limits : IsText text
  pub spelled : Spells payload text

-- the bytes say nothing
abbrev pub IsNoRecord : List ℕ → Type 0
IsNoRecord payload = (text : RecordText) → IsRecordOf payload text → ⊥
