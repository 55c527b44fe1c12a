-- The records of a client's journal of texts, and the commands to which they open.
use Rattle.std.specs.Prelude.{◌≡◌, ℕ, ◌+◌, ◌<◌, ◌^◌, List, [], ◌∷◌, ◌++◌, length, map, take}
use Rattle.sse_frames.specs.Frames.{be64}
use Rattle.vault_shelf.specs.Shelves.{VaultCommand, Put, Drop, Get, empty_shelf}
use Rattle.vault_shelf.specs.ShelfFaults.{AreAccepted}

-- the first record: the 16-byte mark of the key
abbrev pub mark_record : List ℕ → List ℕ
mark_record mark = 0x23 ∷ mark

-- the record of a put or a drop; a get has none
abbrev pub command_record : VaultCommand → List ℕ
command_record (Put id body) = 0x21 ∷ be64 id ++ body
command_record (Drop id) = 0x22 ∷ be64 id
command_record (Get id) = []

-- a put or a drop, of an identifier of eight bytes
abbrev pub IsRecorded : VaultCommand → Type 0
IsRecorded (Put id body) = id < 2 ^ 64
IsRecorded (Drop id) = id < 2 ^ 64
IsRecorded (Get id) = ⊥

abbrev pub AreRecorded : List VaultCommand → Type 0
AreRecorded [] = Unit {0}
AreRecorded (c ∷ cs) = IsRecorded c × AreRecorded cs

-- the records of a key's mark and of commands
abbrev pub vault_records_of : List ℕ → List VaultCommand → List (List ℕ)
vault_records_of mark cs = mark_record mark ∷ map command_record cs

-- these are the records of this mark and these commands, and each command is accepted after those before it
pub record VaultOpens (mark : List ℕ) (payloads : List (List ℕ)) (cs : List VaultCommand) : Type 0 where
  pub size : length mark ≡ 16
  pub are : payloads ≡ vault_records_of mark cs
  pub recorded : AreRecorded cs
  pub accepted : AreAccepted empty_shelf cs

-- they open under no mark
abbrev pub VaultOpensNowhere : List (List ℕ) → Type 0
VaultOpensNowhere payloads = (mark : List ℕ) (cs : List VaultCommand) → VaultOpens mark payloads cs → ⊥

-- there are none yet, or they open under a mark
pub data OpensSoFar (payloads : List (List ℕ)) : Type 0 where
  NoneYet : payloads ≡ [] → OpensSoFar payloads
  SomeOpen : (mark : List ℕ) (cs : List VaultCommand) → VaultOpens mark payloads cs → OpensSoFar payloads

-- the record at place n, from 0, is the first that isn't one, or isn't accepted after those before it
pub record IsBadVaultRecord (payloads : List (List ℕ)) (n : ℕ) : Type 0 where
  pub before : OpensSoFar (take n payloads)
  pub refused : VaultOpensNowhere (take (n + 1) payloads)

-- they open under another mark than this
pub record VaultOpensElsewhere (mark : List ℕ) (payloads : List (List ℕ)) : Type 0 where
  pub other : List ℕ
  pub commands : List VaultCommand
  pub opened : VaultOpens other payloads commands
  pub differs : other ≡ mark → ⊥
