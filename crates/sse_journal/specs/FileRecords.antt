-- The records of a journal's file, and those that a journal counts.
use Rattle.std.specs.Prelude.{◌≡◌, ℕ, zero, suc, ◌+◌, ◌==◌, ◌&&◌, nat_lt, List, [], ◌∷◌, length, take, drop, Option, None, option_map, IfSome, if◌then◌else◌}
use Rattle.std.specs.Int.{w32, from_be_bytes}
use Rattle.sse_journal.specs.JournalView.{broken_by, records_of, IsJournalOf}
use Rattle.sse_journal.specs.declared.journal.Journal.{Journal}

-- the records at the front of these bytes, at most n: each behind a commit byte of 1 and its length, and before one byte more
abbrev pub records_at : (n : ℕ) (rest : List ℕ) → List (List ℕ)
records_at zero rest = []
records_at (suc n) [] = []
records_at (suc n) (commit ∷ rest) =
    let size = from_be_bytes w32 (take 4 rest) in
    if commit == 1 && nat_lt (4 + size) (length rest) then take size (drop 4 rest) ∷ records_at n (drop (4 + size) rest) else []

-- the records of a file, behind its first eight bytes
abbrev pub records_in_file : List ℕ → List (List ℕ)
records_in_file bytes = records_at (length bytes) (drop 8 bytes)

-- the records of a file that a journal counts, where the file is told: those that it has taken
abbrev pub records_counted : Journal → (content : Option (List ℕ)) → Option (List (List ℕ))
records_counted j content = option_map (λ file. take (records_of j) (records_in_file file)) content

-- a journal that isn't broken, of the records that its disk holds
pub record TakesRecords (j : Journal) (content : Option (List ℕ)) (images : List ℕ → Type 0) : Type 0 where
  pub unbroken : broken_by j ≡ None
  pub holds : IfSome content (λ bytes. (payloads : List (List ℕ)) × IsJournalOf payloads j content images)
