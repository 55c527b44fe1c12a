-- The effect of a vault's service over a disk and connections, from the file on.
use Rattle.std.specs.Prelude.{◌≡◌, ◌⊎◌, ℕ, List, Option, IfSome}
use Rattle.sse_journal.specs.Walks.{IsNoJournalAt}
use Rattle.tcp_service.specs.declared.duplex.Duplex.{Duplex}
use Rattle.vault_server.specs.VaultRecords.{HasBadRecord}
use Rattle.vault_server.specs.VaultServerView.{IsVaultFrom, VaultServerView}
use Rattle.vault_served.specs.Lasting.{Lasts}
use Rattle.vault_served.specs.Served.{HaveServed}

-- the bytes of a file that no vault has written: it stops being a journal, or a record of it is no update that a vault takes
-- after those before it
abbrev pub IsNoJournal : List ℕ → Type 0
IsNoJournal bytes = ((place : ℕ) × IsNoJournalAt bytes place) ⊎ ((number : ℕ) × HasBadRecord bytes number)

module _ {D I O : Type 0} (content : D → Option (List ℕ)) (images : D → List ℕ → Type 0) (remaining : I → Option (List ℕ)) (written : O → Option (List ℕ)) where
  -- a vault was started that has taken the updates of the file's records, and connections were served from it, one after the other
  pub record HasServed (disk disk2 : D) (offered offered2 returned returned2 : Option (List (Duplex I O))) : Type 0 where
    pub server : VaultServerView
    pub server2 : VaultServerView
    pub started_disk : D
    pub started : IfSome (content disk) (λ bytes. IsVaultFrom bytes server (content started_disk) (images started_disk))
    pub served : HaveServed (Lasts content images) remaining written
        server server2 started_disk disk2 offered offered2 returned returned2
