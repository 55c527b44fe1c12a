-- A contract's view of a journal, and the records that it is the journal of.
use Rattle.std.specs.Prelude.{◌≡◌, ℕ, List, length, All, Option, vec_capacity}
use Rattle.sse_outside.specs.declared.device_fault.DeviceFault.{DeviceFault}
use Rattle.sse_journal.specs.declared.journal.Journal.{Journal}
use Rattle.sse_journal.specs.Files.{front, IsPayload, Gives}
use Rattle.sse_journal.specs.Holds.{IsSettled}

-- the place of the commit byte after its records
abbrev pub end_of : Journal → ℕ
end_of j = j.end

-- how many records it has
abbrev pub records_of : Journal → ℕ
records_of j = j.records

-- the bytes that its buffer has room for
abbrev pub room_of : Journal → ℕ
room_of j = vec_capacity j.buffer

-- why the first append was refused that was
abbrev pub broken_by : Journal → Option DeviceFault
broken_by j = j.broken

-- it is the journal of these records, over a disk that holds them and nothing else
pub record IsJournalOf (payloads : List (List ℕ)) (j : Journal) (content : Option (List ℕ)) (images : List ℕ → Type 0) : Type 0 where
  pub payloads_are : All IsPayload payloads
  pub end_is : end_of j ≡ length (front payloads)
  pub records_are : records_of j ≡ length payloads
  pub settled : IsSettled payloads content images

-- it is the journal of the records that this file gives
pub record IsJournalFrom (bytes : List ℕ) (j : Journal) (content : Option (List ℕ)) (images : List ℕ → Type 0) : Type 0 where
  pub payloads : List (List ℕ)
  pub gives : Gives payloads bytes
  pub journal : IsJournalOf payloads j content images
