-- The bytes at a place of a journal's file where a record may begin.
use Rattle.std.specs.Prelude.{◌≡◌, ◌≢◌, ℕ, ◌+◌, ◌<◌, List, [], ◌∷◌, ◌++◌, length, drop}
use Rattle.sse_journal.specs.Files.{IsPayload, record_bytes}
use Rattle.sse_journal.specs.declared.head.Head.{Head}
use Rattle.sse_journal.specs.declared.head.Head.TheVariants as heads

-- the end of the records: a commit byte that isn't set, by its value or as the last byte, and anything
pub record IsEnd (commit : ℕ) (rest : List ℕ) : Type 0 where
  pub tail : List ℕ
  pub are : rest ≡ commit ∷ tail
  pub unset : commit ≡ 1 → tail ≡ []

-- a record whose payload has n bytes, and at least one byte more
pub record IsRecord (n : ℕ) (rest : List ℕ) : Type 0 where
  pub payload : List ℕ
  pub size : length payload ≡ n
  pub is : IsPayload payload
  pub are : rest ≡ record_bytes payload ++ drop (5 + n) rest
  pub more : 5 + n < length rest

-- a commit byte that is set and isn't the last byte, and no record there with a byte more after it
pub record IsBad (rest : List ℕ) : Type 0 where
  pub tail : List ℕ
  pub are : rest ≡ 1 ∷ tail
  pub more : tail ≢ []
  pub none : (payload next : List ℕ) → IsPayload payload → next ≢ [] → rest ≡ record_bytes payload ++ next → ⊥

abbrev pub IsHead : Head → List ℕ → Type 0
IsHead (heads.End commit) rest = IsEnd commit rest
IsHead (heads.Record n) rest = IsRecord n rest
IsHead heads.Bad rest = IsBad rest
