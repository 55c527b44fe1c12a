-- A connection of an owner more, and nothing more.
use Rattle.std.proofs.Common.{◌≡◌, ℕ, List, [], ◌∷◌, ◌++◌, refl, subst, ◌∙◌}
use Rattle.std.specs.declared.option.Option.{Option}
use Rattle.std.specs.Option.{option_map}
use Rattle.keyed_fn.specs.KeyedFn.{KeyedFn}
use Rattle.sse_owners.specs.Owned.{OwnedFrame}
use Rattle.sse_owners.specs.OwnersView.{OwnersView, IsOwnersOf}
use Rattle.tcp_service.specs.declared.duplex.Duplex.{Duplex}
use Rattle.server_connections.specs.OwnerConnections.{IsOwnerServed, ServesOwner, AreOwnersServed, HaveOwnersServed}
use Rattle.tcp_service.proofs.GrownLists.{grown-last, grown-none}

module _ {I O : Type 0} (f : KeyedFn) (remaining : I → Option (List ℕ)) (written : O → Option (List ℕ)) (numbers : List ℕ) where
  AreOwnersServed-last : (conns backs : List (Duplex I O)) (conn back : Duplex I O) (frames mid frames2 : List OwnedFrame) → AreOwnersServed f remaining written numbers conns backs frames mid
      → IsOwnerServed f numbers mid frames2 (remaining conn.source) (remaining back.source) (written conn.sink) (written back.sink)
      → AreOwnersServed f remaining written numbers (conns ++ conn ∷ []) (backs ++ back ∷ []) frames frames2
  AreOwnersServed-last [] [] conn back frames mid frames2 are is =
      (frames2, subst (λ l. IsOwnerServed f numbers l frames2 (remaining conn.source) (remaining back.source) (written conn.sink) (written back.sink)) are is, refl)
  AreOwnersServed-last [] (_ ∷ _) conn back frames mid frames2 are is = elim are [ ]
  AreOwnersServed-last (_ ∷ _) [] conn back frames mid frames2 are is = elim are [ ]
  AreOwnersServed-last (first ∷ conns) (back1 ∷ backs) conn back frames mid frames2 are is =
      (are.0, are.1, AreOwnersServed-last conns backs conn back are.0 mid frames2 are.2 is)

  pub HaveOwnersServed-still : (frames : List OwnedFrame) (owners : OwnersView) (content : Option (List ℕ)) (images : List ℕ → Type 0) (offered0 offered offered2 returned0 returned returned2 : Option (List (Duplex I O)))
      → HaveOwnersServed f remaining written numbers frames owners content images offered0 offered returned0 returned → offered2 ≡ offered → returned2 ≡ returned
      → HaveOwnersServed f remaining written numbers frames owners content images offered0 offered2 returned0 returned2
  HaveOwnersServed-still frames owners content images offered0 offered offered2 returned0 returned returned2 have o r = record {
    conns = have.conns;
    backs = have.backs;
    offered_is = o ∙ have.offered_is;
    returned_is = r ∙ have.returned_is;
    frames2 = have.frames2;
    numbers_are = have.numbers_are;
    served = have.served;
    owners_are = have.owners_are;
  }

  pub HaveOwnersServed-last : (frames : List OwnedFrame) (owners owners2 : OwnersView) (content content2 : Option (List ℕ)) (images images2 : List ℕ → Type 0) (offered0 offered offered2 returned0 returned returned2 : Option (List (Duplex I O))) (conn back : Duplex I O)
      → HaveOwnersServed f remaining written numbers frames owners content images offered0 offered returned0 returned
      → ((all : List OwnedFrame) → IsOwnersOf all owners content images → ServesOwner f owners owners2 all (remaining conn.source) (remaining back.source) (written conn.sink) (written back.sink) content2 images2)
      → offered2 ≡ option_map (λ l. l ++ conn ∷ []) offered → returned2 ≡ option_map (λ l. l ++ back ∷ []) returned
      → HaveOwnersServed f remaining written numbers frames owners2 content2 images2 offered0 offered2 returned0 returned2
  HaveOwnersServed-last frames owners owners2 content content2 images images2 offered0 offered offered2 returned0 returned returned2 conn back have serves o r =
      let one = serves have.frames2 have.owners_are in
      record {
        conns = have.conns ++ conn ∷ [];
        backs = have.backs ++ back ∷ [];
        offered_is = grown-last offered0 offered offered2 have.conns conn have.offered_is o;
        returned_is = grown-last returned0 returned returned2 have.backs back have.returned_is r;
        frames2 = one.frames2;
        numbers_are = one.numbers ∙ have.numbers_are;
        served = AreOwnersServed-last have.conns have.backs conn back frames have.frames2 one.frames2 have.served
            (subst (λ ns. IsOwnerServed f ns have.frames2 one.frames2 (remaining conn.source) (remaining back.source) (written conn.sink) (written back.sink)) have.numbers_are one.served);
        owners_are = one.owners_are;
      }

-- no connection
pub HaveOwnersServed-none : {I O : Type 0} (f : KeyedFn) (remaining : I → Option (List ℕ)) (written : O → Option (List ℕ)) (frames : List OwnedFrame) (owners : OwnersView) (content : Option (List ℕ)) (images : List ℕ → Type 0)
    (offered returned : Option (List (Duplex I O))) → IsOwnersOf frames owners content images → HaveOwnersServed f remaining written owners.numbers frames owners content images offered offered returned returned
HaveOwnersServed-none f remaining written frames owners content images offered returned is = record {
  conns = [];
  backs = [];
  offered_is = grown-none offered;
  returned_is = grown-none returned;
  frames2 = frames;
  numbers_are = refl;
  served = refl;
  owners_are = is;
}
