-- Files as a run meets them that begins on one or resumes from one.
use Rattle.std.specs.Prelude.{◌≢◌, ◌⊎◌, ℕ, List, [], Option}
use Rattle.sse_journal.specs.Files.{Gives}
use Rattle.sse_journal.specs.JournalView.{IsJournalOf}
use Rattle.sse_journal.specs.Walks.{IsNoJournalAt}
use Rattle.sse_journal.specs.declared.journal.Journal.{Journal}

-- it gives records, one at least
pub record GivesSome (bytes : List ℕ) : Type 0 where
  pub payloads : List (List ℕ)
  pub gives : Gives payloads bytes
  pub some : payloads ≢ []

-- it stops being a journal at some place
abbrev pub IsNoJournal : List ℕ → Type 0
IsNoJournal bytes = (place : ℕ) × IsNoJournalAt bytes place

-- it has no record to go on from: it gives none, or is no journal
abbrev pub HasNoRecord : List ℕ → Type 0
HasNoRecord bytes = Gives [] bytes ⊎ IsNoJournal bytes

-- it gives no record, and this is the journal of none, over a disk that holds it
pub record IsBegun (bytes : List ℕ) (j : Journal) (content : Option (List ℕ)) (images : List ℕ → Type 0) : Type 0 where
  pub gives : Gives [] bytes
  pub journal : IsJournalOf [] j content images

-- it gives records, and this is the journal of them, over a disk that holds them
pub record IsReopened (bytes : List ℕ) (j : Journal) (content : Option (List ℕ)) (images : List ℕ → Type 0) : Type 0 where
  pub payloads : List (List ℕ)
  pub gives : Gives payloads bytes
  pub some : payloads ≢ []
  pub journal : IsJournalOf payloads j content images

-- this is the journal of some records, over a disk that holds them
abbrev pub IsOfRecords : Journal → Option (List ℕ) → (List ℕ → Type 0) → Type 0
IsOfRecords j content images = (payloads : List (List ℕ)) × IsJournalOf payloads j content images
