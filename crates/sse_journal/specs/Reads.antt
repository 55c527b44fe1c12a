-- The result of reading a record of a journal.
use Rattle.std.specs.Prelude.{◌≡◌, ◌≢◌, ℕ, ◌+◌, ◌<◌, List, [], ◌++◌, length, take, get_or, Option, Some, None}
use Rattle.sse_journal.specs.Files.{front, record_bytes, IsPayload}

-- the place of the k-th record, counted from 0; of the last place, the end
abbrev pub place_of : (payloads : List (List ℕ)) (k : ℕ) → ℕ
place_of payloads k = length (front (take k payloads))

-- at the front of these bytes stands this record, with at least one byte more after it
pub record Begins (payload rest : List ℕ) : Type 0 where
  pub is : IsPayload payload
  pub tail : List ℕ
  pub are : rest ≡ record_bytes payload ++ tail
  pub more : tail ≢ []

-- read at the k-th place: the k-th record and the place of the next one, and nothing exactly after the last
abbrev pub IsRead : (payloads : List (List ℕ)) (k : ℕ) → Option ℕ → List ℕ → Type 0
IsRead payloads k None out = k ≡ length payloads
IsRead payloads k (Some next) out = (k < length payloads) × (out ≡ get_or payloads k []) × (next ≡ place_of payloads (k + 1))
