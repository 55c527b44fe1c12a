-- The traffic over connections, one after another.
use Rattle.std.specs.Prelude.{◌≡◌, ℕ, List, [], ◌∷◌, ◌++◌, Option}
use Rattle.std.specs.Option.{option_map}
use Rattle.keyed_fn.specs.KeyedFn.{KeyedFn}
use Rattle.sse_frames.specs.Frames.{FrameText}
use Rattle.server_core.specs.State.{ServerState}
use Rattle.tcp_service.specs.declared.conn_end.ConnEnd.{ConnEnd}
use Rattle.tcp_service.specs.declared.duplex.Duplex.{Duplex}
use Rattle.server_connections.specs.Handled.{Since}
use Rattle.server_connections.specs.Connections.{IsConnection}

module _ {S D I O : Type 0} (f : KeyedFn) (state : S → ServerState) (lasts : S → D → Since → List FrameText → Type 0) (remaining : I → Option (List ℕ)) (written : O → Option (List ℕ)) where
  -- a connection, as it came and as it was given back
  pub record IsServed (store store2 : S) (disk disk2 : D) (conn back : Duplex I O) : Type 0 where
    pub end : ConnEnd
    pub connection : IsConnection f (remaining conn.source) (remaining back.source) (written conn.sink) (written back.sink) (lasts store disk) (lasts store2 disk2) (state store) end (state store2)

  -- each connection was served from the store and the disk that the one before left, and given back
  abbrev pub AreServed : (conns backs : List (Duplex I O)) (store store2 : S) (disk disk2 : D) → Type 0
  AreServed [] [] store store2 disk disk2 = (store2 ≡ store) × (disk2 ≡ disk)
  AreServed [] (_ ∷ _) store store2 disk disk2 = ⊥
  AreServed (_ ∷ _) [] store store2 disk disk2 = ⊥
  AreServed (conn ∷ conns) (back ∷ backs) store store2 disk disk2 =
      (mid : S) × (mid_disk : D) × IsServed store mid disk mid_disk conn back × AreServed conns backs mid store2 mid_disk disk2

  -- both lists grew, by connections that were served one after the other
  pub record HaveServed (store store2 : S) (disk disk2 : D) (offered offered2 returned returned2 : Option (List (Duplex I O))) : Type 0 where
    pub conns : List (Duplex I O)
    pub backs : List (Duplex I O)
    pub offered_is : offered2 ≡ option_map (λ l. l ++ conns) offered
    pub returned_is : returned2 ≡ option_map (λ l. l ++ backs) returned
    pub served : AreServed conns backs store store2 disk disk2

  -- where connections were served up to here, those up to there were
  abbrev pub ServesMore : (store store2 : S) (disk disk2 : D) (offered offered2 returned returned2 : Option (List (Duplex I O))) → Type 0
  ServesMore store store2 disk disk2 offered offered2 returned returned2 = (store0 : S) (disk0 : D) (offered0 returned0 : Option (List (Duplex I O)))
      → HaveServed store0 store disk0 disk offered0 offered returned0 returned
      → HaveServed store0 store2 disk0 disk2 offered0 offered2 returned0 returned2
