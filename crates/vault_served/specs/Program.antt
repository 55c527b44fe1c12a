-- What the vault's program served: over which file and which connections, and why it ended.
use Rattle.std.specs.Prelude.{◌≡◌, ◌≢◌, ◌⊎◌, ◌+◌, ◌≤◌, ℕ, Bool, true, List, Option, Result, Ok, Err, OnOk, IsErr, IfSome}
use Rattle.sse_outside.specs.Causes.{Rose}
use Rattle.sse_journal.specs.Files.{Gives}
use Rattle.tcp_service.specs.declared.duplex.Duplex.{Duplex}
use Rattle.vault_server.specs.VaultFrames.{VaultFrameText}
use Rattle.vault_server.specs.VaultState.{AreVaultTaken, empty_vault, vault_records}
use Rattle.vault_served.specs.Services.{HasServed, IsNoJournal}
use Rattle.service_places.specs.Untouched.{HasNotServed}
use Rattle.service_places.specs.declared.stop.ServiceStop.{ServiceStop}
use Rattle.service_places.specs.declared.stop.ServiceStop.TheVariants.{Link, Disk, NoJournal, Memory}

module _ {D C I O : Type 0} (content : D → Option (List ℕ)) (images : D → List ℕ → Type 0) (disk_faults : D → ℕ)
    (remaining : I → Option (List ℕ)) (written : O → Option (List ℕ)) (offered returned : C → Option (List (Duplex I O))) (given lent conn_faults : C → ℕ) (ended : C → Bool) where
  -- so many connections were served, or why not, over a disk and connections from where they were to where they are
  pub record HasServedSo (count : ℕ) (end : Result Unit ServiceStop) (disk : D) (conns : C) (disk2 : D) (conns2 : C) : Type 0 where
    pub served : OnOk end (HasServed content images remaining written disk disk2 (offered conns) (offered conns2) (returned conns) (returned conns2))
    pub all : OnOk end ((given conns2 ≡ given conns + count) ⊎ (ended conns2 ≡ true))
    pub few : given conns2 ≤ given conns + count
    pub none_lent : lent conns2 ≡ lent conns
    pub link : end ≡ Err Link → Rose (conn_faults conns) (conn_faults conns2)
    pub link_served : end ≡ Err Link → HasServed content images remaining written disk disk2 (offered conns) (offered conns2) (returned conns) (returned conns2)
    pub memory : end ≡ Err Memory → HasNotServed content images conns conns2 disk disk2
    pub disk_failed : end ≡ Err Disk → Rose (disk_faults disk) (disk_faults disk2)
    pub disk_served : end ≡ Err Disk → HasNotServed content images conns conns2 disk disk2 ⊎ HasServed content images remaining written disk disk2 (offered conns) (offered conns2) (returned conns) (returned conns2)
    pub no_journal : end ≡ Err NoJournal → IfSome (content disk) (λ bytes. IsNoJournal bytes)
    pub no_journal_untouched : end ≡ Err NoJournal → HasNotServed content images conns conns2 disk disk2
    pub no_journal_refused : IfSome (content disk) (λ bytes. IsNoJournal bytes → (IsErr end) × (end ≢ Err Link))
    pub journal_taken : IfSome (content disk) (λ bytes. (frames : List VaultFrameText) → AreVaultTaken empty_vault frames → Gives (vault_records frames) bytes → end ≢ Err NoJournal)
