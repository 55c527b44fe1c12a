-- Connections that were served from the owners' servers that a start made.
use Rattle.std.proofs.Common.{◌≡◌, ℕ, List, Option, subst}
use Rattle.std.specs.Prelude.{IfSome}
use Rattle.keyed_fn.specs.KeyedFn.{KeyedFn}
use Rattle.sse_owners.specs.Owned.{OwnedFrame}
use Rattle.sse_owners.specs.OwnersView.{OwnersView, IsOwnersFrom, IsOwnersOf}
use Rattle.tcp_service.specs.declared.duplex.Duplex.{Duplex}
use Rattle.server_connections.specs.OwnerConnections.{HaveOwnersServed}
use Rattle.service_places.proofs.KnownValues.{if_some}
use Rattle.sse_served.specs.Services.{HasServedOwners}

module _ {D I O : Type 0} (f : KeyedFn) (content : D → Option (List ℕ)) (images : D → List ℕ → Type 0) (remaining : I → Option (List ℕ)) (written : O → Option (List ℕ))
    (numbers : List ℕ) (owners owners2 : OwnersView) (disk started disk2 : D) (offered offered2 returned returned2 : Option (List (Duplex I O))) where
  pub served_from : IfSome (content disk) (λ bytes. IsOwnersFrom bytes owners (content started) (images started)) → owners.numbers ≡ numbers
      → ((frames : List OwnedFrame) → IsOwnersOf frames owners (content started) (images started)
      → HaveOwnersServed f remaining written owners.numbers frames owners2 (content disk2) (images disk2) offered offered2 returned returned2)
      → HasServedOwners f content images remaining written numbers disk disk2 offered offered2 returned returned2
  served_from starts same serves = if_some (content disk) starts (λ bytes from. record {
    frames = from.frames;
    gives = from.gives;
    owners2 = owners2;
    served = subst (λ n. HaveOwnersServed f remaining written n from.frames owners2 (content disk2) (images disk2) offered offered2 returned returned2) same (serves from.frames from.owners_are);
  })
