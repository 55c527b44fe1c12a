-- What the program served: over which file and which connections, and why it ended.
use Rattle.std.specs.Prelude.{◌≡◌, ◌≢◌, ◌⊎◌, ◌+◌, ◌-◌, ◌^◌, ◌≤◌, ℕ, Bool, true, List, Option, Result, Ok, Err, OnOk, IsErr, IfSome}
use Rattle.keyed_fn.specs.KeyedFn.{KeyedFn}
use Rattle.sse_outside.specs.Causes.{Rose}
use Rattle.tcp_service.specs.declared.duplex.Duplex.{Duplex}
use Rattle.sse_served.specs.Asked.{Mode, OneArchive, Owners}
use Rattle.sse_served.specs.Services.{HasServed, HasServedOwners, IsJournal, IsNoJournal, IsNoOwnersJournal, IsOwnersJournal}
use Rattle.service_places.specs.Untouched.{HasNotServed}
use Rattle.service_places.specs.declared.stop.ServiceStop.{ServiceStop}
use Rattle.service_places.specs.declared.stop.ServiceStop.TheVariants.{Link, Disk, NoJournal, Memory}

module _ {D C I O : Type 0} (content : D → Option (List ℕ)) (images : D → List ℕ → Type 0) (disk_faults : D → ℕ)
    (offered returned : C → Option (List (Duplex I O))) (given lent conn_faults : C → ℕ) (ended : C → Bool)
    (Served : (disk disk2 : D) (offered offered2 returned returned2 : Option (List (Duplex I O))) → Type 0) (Refused Accepted : (bytes : List ℕ) → Type 0) where
  -- so many connections were served, or why not, over a disk and connections from where they were to where they are, by what is meant by
  -- that and by the files that are refused or accepted
  pub record HasServedSo (count : ℕ) (end : Result Unit ServiceStop) (disk : D) (conns : C) (disk2 : D) (conns2 : C) : Type 0 where
    pub served : OnOk end (Served disk disk2 (offered conns) (offered conns2) (returned conns) (returned conns2))
    pub all : OnOk end ((given conns2 ≡ given conns + count) ⊎ (ended conns2 ≡ true))
    pub few : given conns2 ≤ given conns + count
    pub none_lent : lent conns2 ≡ lent conns
    pub link : end ≡ Err Link → Rose (conn_faults conns) (conn_faults conns2)
    pub link_served : end ≡ Err Link → Served disk disk2 (offered conns) (offered conns2) (returned conns) (returned conns2)
    pub memory : end ≡ Err Memory → HasNotServed content images conns conns2 disk disk2
    pub disk_failed : end ≡ Err Disk → Rose (disk_faults disk) (disk_faults disk2)
    pub disk_served : end ≡ Err Disk → HasNotServed content images conns conns2 disk disk2 ⊎ Served disk disk2 (offered conns) (offered conns2) (returned conns) (returned conns2)
    pub no_journal : end ≡ Err NoJournal → IfSome (content disk) Refused
    pub no_journal_untouched : end ≡ Err NoJournal → HasNotServed content images conns conns2 disk disk2
    pub no_journal_refused : IfSome (content disk) (λ bytes. Refused bytes → (IsErr end) × (end ≢ Err Link))
    pub journal_taken : IfSome (content disk) (λ bytes. Accepted bytes → end ≢ Err NoJournal)

module _ {D C I O : Type 0} (f : KeyedFn) (content : D → Option (List ℕ)) (images : D → List ℕ → Type 0) (disk_faults : D → ℕ)
    (remaining : I → Option (List ℕ)) (written : O → Option (List ℕ)) (offered returned : C → Option (List (Duplex I O))) (given lent conn_faults : C → ℕ) (ended : C → Bool) where
  -- one archive was served for so many connections, or one of each owner for 2^32-1
  abbrev pub ServesMode : Mode → (end : Result Unit ServiceStop) (disk : D) (conns : C) (disk2 : D) (conns2 : C) → Type 0
  ServesMode (OneArchive count) = HasServedSo content images disk_faults offered returned given lent conn_faults ended (HasServed f content images remaining written) IsNoJournal IsJournal count
  ServesMode (Owners numbers) = HasServedSo content images disk_faults offered returned given lent conn_faults ended (HasServedOwners f content images remaining written numbers)
      (IsNoOwnersJournal numbers) (IsOwnersJournal numbers) (2 ^ 32 - 1)
