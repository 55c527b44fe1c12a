-- The servers of many owners are started: their journal, and servers that took all of its records.
use Rattle.std.proofs.Common.{length, ◌≡◌, ℕ, ◌<◌, List, subst}
use Rattle.std.specs.Prelude.{Option}
use Rattle.sse_outside.specs.Images.{NoOther}
use Rattle.sse_journal.specs.Files.{Gives}
use Rattle.sse_journal.specs.JournalView.{IsJournalOf, IsJournalFrom}
use Rattle.sse_journal.specs.declared.journal.Journal.{Journal}
use Rattle.server_core.specs.State.{ServerState}
use Rattle.sse_server.proofs.ReplaySteps.{journal_on}
use Rattle.sse_owners.specs.Owned.{records}
use Rattle.sse_owners.specs.OwnedRecords.{IsBadOwned, HasBadOwned, AreReplayed}
use Rattle.sse_owners.specs.OwnersView.{IsOwnersFrom}
use Rattle.sse_owners.proofs.LastingOwners.{owners_of}

-- servers that took all records of the journal, of which the first is chosen
pub owners_from : (bytes : List ℕ) (numbers : List ℕ) (some : 0 < length numbers) (j : Journal) (states : List ServerState) (content content' : Option (List ℕ)) (images images' : List ℕ → Type 0) → IsJournalFrom bytes j content images
    → ((payloads : List (List ℕ)) → IsJournalOf payloads j content images → AreReplayed numbers payloads states) → content' ≡ content → NoOther images images'
    → IsOwnersFrom bytes (record { numbers = numbers; states = states; chosen = 0; journal = j }) content' images'
owners_from bytes numbers some j states content content' images images' from replayed kept no_other =
    let done = replayed from.payloads from.journal in
    record {
      frames = done.frames;
      gives = subst (λ (ps : List (List ℕ)). Gives ps bytes) done.payloads_are from.gives;
      owners_are = owners_of done.frames (record { numbers = numbers; states = states; chosen = 0; journal = j }) content' images' some done.are_taken done.states_are
          (journal_on (records done.frames) j content content' images images' (subst (λ (ps : List (List ℕ)). IsJournalOf ps j content images) done.payloads_are from.journal) kept no_other);
    }

pub bad_from : (numbers : List ℕ) (bytes : List ℕ) (j : Journal) (number : ℕ) (content : Option (List ℕ)) (images : List ℕ → Type 0) → IsJournalFrom bytes j content images
    → ((payloads : List (List ℕ)) → IsJournalOf payloads j content images → IsBadOwned numbers payloads number) → HasBadOwned numbers bytes number
bad_from numbers bytes j number content images from bad = record { payloads = from.payloads; gives = from.gives; bad = bad from.payloads from.journal }
