-- What a start of the vault promises: of the journal, of the files that it refuses, and of the disk.
use Rattle.std.specs.Prelude.{◌≡◌, ◌≢◌, ℕ, ◌+◌, ◌<◌, ◌≤◌, List, Option, None, Result, Err, IfSome, IsErr, IsErrOf}
use Rattle.sse_outside.specs.Causes.{Rose}
use Rattle.sse_outside.specs.Images.{NoOther}
use Rattle.sse_journal.specs.AnyMoment.{LeavesOnly}
use Rattle.sse_journal.specs.Files.{Gives}
use Rattle.sse_journal.specs.Holds.{IsAllOf}
use Rattle.sse_journal.specs.JournalView.{broken_by}
use Rattle.sse_journal.specs.Walks.{IsNoJournalAt}
use Rattle.sse_journal.specs.declared.journal.Journal.{Journal}
use Rattle.vault_server.specs.VaultFrames.{VaultFrameText}
use Rattle.vault_server.specs.VaultRecords.{HasBadRecord}
use Rattle.vault_server.specs.VaultServerView.{IsWithin}
use Rattle.vault_server.specs.VaultState.{AreVaultTaken, empty_vault, vault_records}
use Rattle.vault_server.specs.declared.vault_open_fault.VaultOpenFault.{VaultOpenFault}
use Rattle.vault_server.specs.declared.vault_open_fault.VaultOpenFault.TheVariants.{DiskFault, NotAJournal, BadRecord}

-- a journal that can append records: it isn't broken, and the file has the commit byte after its records
pub record IsReady (journal : Journal) (content : Option (List ℕ)) : Type 0 where
  pub whole : broken_by journal ≡ None
  pub within : IsWithin journal content

-- a file is refused only for what it holds, and with that cause
pub record RefusesOnly {T : Type 0} (result : Result T VaultOpenFault) (content content' : Option (List ℕ)) (images' : List ℕ → Type 0) : Type 0 where
  -- if it stops being a journal at a place: with this error, unless a fault of the disk comes first; and the file is unchanged
  pub no_journal : (place : ℕ) → result ≡ Err (NotAJournal place) → IfSome content (λ bytes. IsNoJournalAt bytes place × IsAllOf bytes content' images')
  pub no_journal_refused : IfSome content (λ bytes. (place : ℕ) → IsNoJournalAt bytes place → IsErr result × ((other : ℕ) → result ≡ Err (NotAJournal other) → other ≡ place))
  -- if it is a journal with a record that no vault takes: with this error, unless the disk fails or memory runs out first
  pub bad_record : (number : ℕ) → result ≡ Err (BadRecord number) → IfSome content (λ bytes. HasBadRecord bytes number)
  pub bad_record_refused : IfSome content (λ bytes. (number : ℕ) → HasBadRecord bytes number → IsErr result × ((other : ℕ) → result ≡ Err (BadRecord other) → other ≡ number))
  -- if it is a journal whose records are all taken: with neither of the two errors
  pub accepted : IfSome content (λ bytes. (frames : List VaultFrameText) → AreVaultTaken empty_vault frames → Gives (vault_records frames) bytes →
      (n : ℕ) → (result ≢ Err (NotAJournal n)) × (result ≢ Err (BadRecord n)))

-- the disk's count of faults never falls. It rises if a fault of the disk is reported, and stays if none is
pub record CountsStart {T : Type 0} (result : Result T VaultOpenFault) (before now : ℕ) : Type 0 where
  pub later : before ≤ now
  pub failed : IsErrOf result DiskFault → Rose before now
  pub steady : result ≢ Err DiskFault → now ≡ before

-- the content of the disk is unchanged, and a crash leaves only what it would have left before
pub record OnlyReads {D : Type 0} (content : D → Option (List ℕ)) (images : D → List ℕ → Type 0) (moment : D → ℕ) (left_since : D → ℕ → List ℕ → Type 0) (old new : D) : Type 0 where
  pub kept : content new ≡ content old
  pub images_kept : NoOther (images old) (images new)
  pub quiet : LeavesOnly moment left_since old new (images old)

-- there is a record at this place, before the end, and the next one begins at least five bytes later
pub record IsNextPlace (at end next : ℕ) : Type 0 where
  pub before_end : at < end
  pub goes_on : at + 5 ≤ next
