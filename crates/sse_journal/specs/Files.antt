-- The file of a journal, and the records that a file gives after a crash (docs/FORMATS.md).
use Rattle.std.specs.Prelude.{◌≡◌, ◌⊎◌, ℕ, ◌^◌, ◌<◌, ◌≤◌, List, [], ◌∷◌, ◌++◌, length, flat_map, All, codes}
use Rattle.std.specs.Int.{w32, to_be_bytes}

-- the first eight bytes of the file
abbrev pub magic : List ℕ
magic = codes "SSEJRNL1"

-- what stands after a record's commit byte: its length in four bytes, the most significant first, and its payload
unfoldable pub framed : (payload : List ℕ) → List ℕ
framed payload = to_be_bytes w32 (length payload) ++ payload

-- a record: a commit byte that is set, and its payload with the length
abbrev pub record_bytes : (payload : List ℕ) → List ℕ
record_bytes payload = 1 ∷ framed payload

-- the front of a file with these records, up to the commit byte after them
unfoldable pub front : (payloads : List (List ℕ)) → List ℕ
front payloads = magic ++ flat_map record_bytes payloads

-- the file with these records: after them a commit byte that isn't set, and nothing more
abbrev pub file : (payloads : List (List ℕ)) → List ℕ
file payloads = front payloads ++ 0 ∷ []

-- a record holds 1 to 2^27 bytes
pub record IsPayload (payload : List ℕ) : Type 0 where
  pub some : 1 ≤ length payload
  pub limit : length payload ≤ 2 ^ 27

-- these bytes are these records, a commit byte that isn't set (by its value, or as the last byte of the file), and anything
pub record IsFileOf (payloads : List (List ℕ)) (bytes : List ℕ) : Type 0 where
  pub payloads_are : All IsPayload payloads
  pub commit : ℕ
  pub tail : List ℕ
  pub are : bytes ≡ front payloads ++ commit ∷ tail
  pub unset : commit ≡ 1 → tail ≡ []

-- a file from which starting gives these records: one that is too short for a journal gives none
abbrev pub Gives : (payloads : List (List ℕ)) (bytes : List ℕ) → Type 0
Gives payloads bytes = ((length bytes < 9) × (payloads ≡ [])) ⊎ IsFileOf payloads bytes

-- with one record more or without it
abbrev pub GivesWithOrWithout : (payloads : List (List ℕ)) (payload bytes : List ℕ) → Type 0
GivesWithOrWithout payloads payload bytes = Gives payloads bytes ⊎ Gives (payloads ++ payload ∷ []) bytes

-- which records starting gives of one file, those it gives of the other
abbrev pub GivesAs : (bytes image : List ℕ) → Type 0
GivesAs bytes image = (payloads : List (List ℕ)) → Gives payloads bytes → Gives payloads image
