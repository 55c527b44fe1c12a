-- Connections of a vault, one after another.
use Rattle.std.specs.Prelude.{◌≡◌, ℕ, List, [], ◌∷◌, ◌++◌, Option}
use Rattle.std.specs.Option.{option_map}
use Rattle.tcp_service.specs.declared.conn_end.ConnEnd.{ConnEnd}
use Rattle.tcp_service.specs.declared.duplex.Duplex.{Duplex}
use Rattle.vault_server.specs.VaultFrames.{VaultFrameText}
use Rattle.vault_server.specs.VaultServerView.{VaultServerView}
use Rattle.vault_served.specs.Connections.{IsConnection}

module _ {D I O : Type 0} (lasts : VaultServerView → D → List VaultFrameText → Type 0) (remaining : I → Option (List ℕ)) (written : O → Option (List ℕ)) where
  -- a connection, as it came and as it was given back
  pub record IsServed (server server2 : VaultServerView) (disk disk2 : D) (conn back : Duplex I O) : Type 0 where
    pub end : ConnEnd
    pub connection : IsConnection (remaining conn.source) (remaining back.source) (written conn.sink) (written back.sink) (lasts server disk) (lasts server2 disk2) server.state end server2.state

  -- each connection was served from the vault and the disk that the one before left, and given back
  abbrev pub AreServed : (conns backs : List (Duplex I O)) (server server2 : VaultServerView) (disk disk2 : D) → Type 0
  AreServed [] [] server server2 disk disk2 = (server2 ≡ server) × (disk2 ≡ disk)
  AreServed [] (_ ∷ _) server server2 disk disk2 = ⊥
  AreServed (_ ∷ _) [] server server2 disk disk2 = ⊥
  AreServed (conn ∷ conns) (back ∷ backs) server server2 disk disk2 =
      (mid : VaultServerView) × (mid_disk : D) × IsServed server mid disk mid_disk conn back × AreServed conns backs mid server2 mid_disk disk2

  -- both lists grew, by connections that were served one after the other
  pub record HaveServed (server server2 : VaultServerView) (disk disk2 : D) (offered offered2 returned returned2 : Option (List (Duplex I O))) : Type 0 where
    pub conns : List (Duplex I O)
    pub backs : List (Duplex I O)
    pub offered_is : offered2 ≡ option_map (λ l. l ++ conns) offered
    pub returned_is : returned2 ≡ option_map (λ l. l ++ backs) returned
    pub served : AreServed conns backs server server2 disk disk2

  -- if connections were served up to here, those up to there were
  abbrev pub ServesMore : (server server2 : VaultServerView) (disk disk2 : D) (offered offered2 returned returned2 : Option (List (Duplex I O))) → Type 0
  ServesMore server server2 disk disk2 offered offered2 returned returned2 = (server0 : VaultServerView) (disk0 : D) (offered0 returned0 : Option (List (Duplex I O)))
      → HaveServed server0 server disk0 disk offered0 offered returned0 returned
      → HaveServed server0 server2 disk0 disk2 offered0 offered2 returned0 returned2
