-- What a fault of a start makes the program stop for, and what it says of the file.
use Rattle.std.proofs.Common.{◌≡◌, ◌≢◌, ℕ, List, inl, inr, refl, Option}
use Rattle.std.specs.Prelude.{IfSome}
use Rattle.sse_journal.specs.Walks.{IsNoJournalAt}
use Rattle.vault_server.specs.VaultRecords.{HasBadRecord}
use Rattle.vault_server.specs.declared.vault_open_fault.VaultOpenFault.{VaultOpenFault}
use Rattle.vault_server.specs.declared.vault_open_fault.VaultOpenFault.TheVariants as opens
use Rattle.tcp_service.specs.declared.serve_fault.ServeFault.{ServeFault}
use Rattle.tcp_service.specs.declared.serve_fault.ServeFault.TheVariants as serves
use Rattle.service_places.specs.declared.stop.ServiceStop.{ServiceStop}
use Rattle.service_places.specs.declared.stop.ServiceStop.TheVariants.{NoJournal}
use Rattle.vault_served.specs.Services.{IsNoJournal}
use Rattle.service_places.specs.Stops.{stop_of_serve}
use Rattle.service_places.proofs.KnownValues.{if_some}
use Rattle.vault_served.specs.Stops.{stop_of_open}

-- what follows of a file that stops being a journal, and of one with a bad record, follows of one that is no journal of a vault
pub of_either : {R : Type 0} (bytes : List ℕ) → ((place : ℕ) → IsNoJournalAt bytes place → R) → ((number : ℕ) → HasBadRecord bytes number → R) → IsNoJournal bytes → R
of_either bytes p q (inl ends) = p ends.0 ends.1
of_either bytes p q (inr bad) = q bad.0 bad.1

-- a start that stops for that was refused for what the file holds
pub no_journal_of : (content : Option (List ℕ)) (fault : VaultOpenFault) → stop_of_open fault ≡ NoJournal
    → ((place : ℕ) → fault ≡ opens.NotAJournal place → IfSome content (λ bytes. IsNoJournalAt bytes place))
    → ((number : ℕ) → fault ≡ opens.BadRecord number → IfSome content (λ bytes. HasBadRecord bytes number))
    → IfSome content (λ bytes. IsNoJournal bytes)
no_journal_of content opens.DiskFault e p q = absurd (cc)
no_journal_of content (opens.NotAJournal place) e p q = if_some content (p place refl) (λ bytes ends. inl (place, ends))
no_journal_of content (opens.BadRecord number) e p q = if_some content (q number refl) (λ bytes bad. inr (number, bad))
no_journal_of content opens.NoMemory e p q = absurd (cc)

-- one that isn't refused for it doesn't stop for that
pub never_no_journal : (fault : VaultOpenFault) → ((place : ℕ) → fault ≢ opens.NotAJournal place) → ((number : ℕ) → fault ≢ opens.BadRecord number) → stop_of_open fault ≢ NoJournal
never_no_journal opens.DiskFault p q e = cc
never_no_journal (opens.NotAJournal place) p q e = p place refl
never_no_journal (opens.BadRecord number) p q e = q number refl
never_no_journal opens.NoMemory p q e = cc

-- nor does a service that was begun
pub never_served : (fault : ServeFault) → stop_of_serve fault ≢ NoJournal
never_served serves.NoConnection e = cc
never_served serves.StoreFault e = cc
