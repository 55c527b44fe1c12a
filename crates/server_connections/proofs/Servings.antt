-- A connection more, and nothing more.
use Rattle.std.proofs.Common.{◌≡◌, ℕ, List, [], ◌∷◌, ◌++◌, refl, subst, ◌∙◌}
use Rattle.std.specs.declared.option.Option.{Option}
use Rattle.std.specs.Option.{option_map}
use Rattle.keyed_fn.specs.KeyedFn.{KeyedFn}
use Rattle.sse_frames.specs.Frames.{FrameText}
use Rattle.server_core.specs.State.{ServerState}
use Rattle.tcp_service.specs.declared.duplex.Duplex.{Duplex}
use Rattle.tcp_service.proofs.GrownLists.{grown-last, grown-none}
use Rattle.server_connections.specs.Handled.{Since}
use Rattle.server_connections.specs.Served.{IsServed, AreServed, HaveServed}

module _ {S D I O : Type 0} (f : KeyedFn) (state : S → ServerState) (lasts : S → D → Since → List FrameText → Type 0) (remaining : I → Option (List ℕ)) (written : O → Option (List ℕ)) where
  AreServed-last : (store mid store2 : S) (disk mid_disk disk2 : D) (conns backs : List (Duplex I O)) (conn back : Duplex I O)
      → AreServed f state lasts remaining written conns backs store mid disk mid_disk → IsServed f state lasts remaining written mid store2 mid_disk disk2 conn back
      → AreServed f state lasts remaining written (conns ++ conn ∷ []) (backs ++ back ∷ []) store store2 disk disk2
  AreServed-last store mid store2 disk mid_disk disk2 [] [] conn back are is =
      (store2, disk2, subst (λ d. IsServed f state lasts remaining written store store2 d disk2 conn back) are.1 (subst (λ s. IsServed f state lasts remaining written s store2 mid_disk disk2 conn back) are.0 is), (refl, refl))
  AreServed-last store mid store2 disk mid_disk disk2 [] (_ ∷ _) conn back are is = elim are [ ]
  AreServed-last store mid store2 disk mid_disk disk2 (_ ∷ _) [] conn back are is = elim are [ ]
  AreServed-last store mid store2 disk mid_disk disk2 (first ∷ conns) (back1 ∷ backs) conn back are is =
      (are.0, are.1, are.2, AreServed-last are.0 mid store2 are.1 mid_disk disk2 conns backs conn back are.3 is)

  pub HaveServed-none : (store : S) (disk : D) (offered returned : Option (List (Duplex I O))) → HaveServed f state lasts remaining written store store disk disk offered offered returned returned
  HaveServed-none store disk offered returned = record {
    conns = [];
    backs = [];
    offered_is = grown-none offered;
    returned_is = grown-none returned;
    served = (refl, refl);
  }

  pub HaveServed-still : (store store2 : S) (disk disk2 : D) (offered offered2 offered3 returned returned2 returned3 : Option (List (Duplex I O)))
      → HaveServed f state lasts remaining written store store2 disk disk2 offered offered2 returned returned2 → offered3 ≡ offered2 → returned3 ≡ returned2
      → HaveServed f state lasts remaining written store store2 disk disk2 offered offered3 returned returned3
  HaveServed-still store store2 disk disk2 offered offered2 offered3 returned returned2 returned3 have o r = record {
    conns = have.conns;
    backs = have.backs;
    offered_is = o ∙ have.offered_is;
    returned_is = r ∙ have.returned_is;
    served = have.served;
  }

  pub HaveServed-last : (store mid store2 : S) (disk mid_disk disk2 : D) (offered offered2 offered3 returned returned2 returned3 : Option (List (Duplex I O))) (conn back : Duplex I O)
      → HaveServed f state lasts remaining written store mid disk mid_disk offered offered2 returned returned2 → IsServed f state lasts remaining written mid store2 mid_disk disk2 conn back
      → offered3 ≡ option_map (λ l. l ++ conn ∷ []) offered2 → returned3 ≡ option_map (λ l. l ++ back ∷ []) returned2
      → HaveServed f state lasts remaining written store store2 disk disk2 offered offered3 returned returned3
  HaveServed-last store mid store2 disk mid_disk disk2 offered offered2 offered3 returned returned2 returned3 conn back have is o r = record {
    conns = have.conns ++ conn ∷ [];
    backs = have.backs ++ back ∷ [];
    offered_is = grown-last offered offered2 offered3 have.conns conn have.offered_is o;
    returned_is = grown-last returned returned2 returned3 have.backs back have.returned_is r;
    served = AreServed-last store mid store2 disk mid_disk disk2 have.conns have.backs conn back have.served is;
  }
