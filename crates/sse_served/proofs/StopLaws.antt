-- What a fault of a start makes the program stop for, and what it says of the file.
use Rattle.std.proofs.Common.{◌≡◌, ◌≢◌, ◌<◌, ◌+◌, ◌-◌, ℕ, List, inl, inr, refl, subst, arith, get_or, Option}
use Rattle.std.specs.Prelude.{IfSome}
use Rattle.std.specs.List.Sorted.{IsStrictlyIncreasing}
use Rattle.sse_journal.specs.Walks.{IsNoJournalAt}
use Rattle.sse_server.specs.declared.open_fault.OpenFault.{OpenFault}
use Rattle.sse_server.specs.declared.open_fault.OpenFault.TheVariants as opens
use Rattle.sse_owners.specs.Rising.{IsNotRisingAt}
use Rattle.tcp_service.specs.declared.serve_fault.ServeFault.{ServeFault}
use Rattle.tcp_service.specs.declared.serve_fault.ServeFault.TheVariants as serves
use Rattle.service_places.specs.declared.stop.ServiceStop.{ServiceStop}
use Rattle.service_places.specs.declared.stop.ServiceStop.TheVariants.{NoJournal}
use Rattle.sse_served.specs.Services.{IsNoJournalBy}
use Rattle.service_places.specs.Stops.{stop_of_serve}
use Rattle.service_places.proofs.KnownValues.{if_some}
use Rattle.sse_served.specs.Stops.{stop_of_open}

module _ (HasBad : (bytes : List ℕ) (number : ℕ) → Type 0) where
  -- what follows of a file that stops being a journal, and of one with a bad record, follows of one that no server has written
  pub of_either : {R : Type 0} (bytes : List ℕ) → ((place : ℕ) → IsNoJournalAt bytes place → R) → ((number : ℕ) → HasBad bytes number → R) → IsNoJournalBy HasBad bytes → R
  of_either bytes p q (inl ends) = p ends.0 ends.1
  of_either bytes p q (inr bad) = q bad.0 bad.1

  -- a start that stops for that was refused for what the file holds
  pub no_journal_of : (content : Option (List ℕ)) (fault : OpenFault) → stop_of_open fault ≡ NoJournal
      → ((place : ℕ) → fault ≡ opens.NotAJournal place → IfSome content (λ bytes. IsNoJournalAt bytes place))
      → ((number : ℕ) → fault ≡ opens.BadRecord number → IfSome content (λ bytes. HasBad bytes number))
      → IfSome content (λ bytes. IsNoJournalBy HasBad bytes)
  no_journal_of content opens.DiskFault e p q = absurd (cc)
  no_journal_of content (opens.NotAJournal place) e p q = if_some content (p place refl) (λ bytes ends. inl (place, ends))
  no_journal_of content (opens.BadRecord number) e p q = if_some content (q number refl) (λ bytes bad. inr (number, bad))
  no_journal_of content opens.NoMemory e p q = absurd (cc)

-- one that isn't refused for it doesn't stop for that
pub never_no_journal : (fault : OpenFault) → ((place : ℕ) → fault ≢ opens.NotAJournal place) → ((number : ℕ) → fault ≢ opens.BadRecord number) → stop_of_open fault ≢ NoJournal
never_no_journal opens.DiskFault p q e = cc
never_no_journal (opens.NotAJournal place) p q e = p place refl
never_no_journal (opens.BadRecord number) p q e = q number refl
never_no_journal opens.NoMemory p q e = cc

-- nor does a service that was begun
pub never_served : (fault : ServeFault) → stop_of_serve fault ≢ NoJournal
never_served serves.NoConnection e = cc
never_served serves.StoreFault e = cc

-- numbers that rise have no place where they don't
pub never_not_rising : (numbers : List ℕ) (place : ℕ) → IsStrictlyIncreasing numbers → IsNotRisingAt numbers place → ⊥
never_not_rising numbers place rising at =
    let same : place - 1 + 1 ≡ place = omega (arith, at.after_first) in
    let below : get_or numbers (place - 1) 0 < get_or numbers place 0 =
    subst (λ i. get_or numbers (place - 1) 0 < get_or numbers i 0) same (rising (place - 1) (omega (arith, same, at.inside))) in
    omega (arith, below, at.not_above)
