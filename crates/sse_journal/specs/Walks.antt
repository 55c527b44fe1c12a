-- The end of a file's records, and the place where a file stops being a journal.
use Rattle.std.specs.Prelude.{◌≡◌, ◌≢◌, ◌⊎◌, ℕ, ◌<◌, ◌≤◌, List, ◌∷◌, [], ◌++◌, length, take, All}
use Rattle.sse_journal.specs.Files.{front, magic, IsPayload}
use Rattle.sse_journal.specs.Heads.{IsBad}

-- up to here stand records, and here one more may begin
pub record IsWithin (bytes : List ℕ) (at records : ℕ) : Type 0 where
  pub payloads : List (List ℕ)
  pub payloads_are : All IsPayload payloads
  pub rest : List ℕ
  pub are : bytes ≡ front payloads ++ rest
  pub at_is : at ≡ length (front payloads)
  pub records_are : records ≡ length payloads
  pub more : at < length bytes

-- the records end here, at this commit byte, which isn't set
pub record IsWalked (bytes : List ℕ) (at records commit : ℕ) : Type 0 where
  pub payloads : List (List ℕ)
  pub payloads_are : All IsPayload payloads
  pub tail : List ℕ
  pub are : bytes ≡ front payloads ++ commit ∷ tail
  pub at_is : at ≡ length (front payloads)
  pub records_are : records ≡ length payloads
  pub unset : commit ≡ 1 → tail ≡ []

-- up to here stand records, and here is a commit byte that is set before something that is no record
pub record IsNoRecordAt (bytes : List ℕ) (at : ℕ) : Type 0 where
  pub payloads : List (List ℕ)
  pub payloads_are : All IsPayload payloads
  pub rest : List ℕ
  pub are : bytes ≡ front payloads ++ rest
  pub at_is : at ≡ length (front payloads)
  pub bad : IsBad rest

-- a file of at least nine bytes that doesn't begin as a journal, or where no record stands after this commit byte
abbrev pub IsNoJournalAt : (bytes : List ℕ) (place : ℕ) → Type 0
IsNoJournalAt bytes place = ((place ≡ 0) × (9 ≤ length bytes) × (take 8 bytes ≢ magic)) ⊎ IsNoRecordAt bytes place
