-- The traffic of connections that begin with an owner's number, one after another.
use Rattle.std.specs.Prelude.{◌≡◌, ◌⊎◌, ℕ, ◌^◌, ◌<◌, List, [], ◌∷◌, ◌++◌, Contains, Option, map, length}
use Rattle.std.specs.Option.{option_map}
use Rattle.std.specs.Int.{w64, to_be_bytes}
use Rattle.std.specs.Io.KnownBytes.{append_known, prepend_known}
use Rattle.keyed_fn.specs.KeyedFn.{KeyedFn}
use Rattle.sse_outside.specs.Fronts.{TookFront}
use Rattle.sse_frames.specs.Replies.{OutOfPlace, reply_bytes}
use Rattle.sse_owners.specs.Owned.{OwnedFrame, owned, state_of}
use Rattle.sse_owners.specs.OwnersView.{OwnersView, IsOwnersOf}
use Rattle.tcp_service.specs.declared.conn_end.ConnEnd.{ConnEnd}
use Rattle.tcp_service.specs.declared.duplex.Duplex.{Duplex}
use Rattle.server_connections.specs.Connections.{Finishes}
use Rattle.server_connections.specs.Turns.{Turn, AreTurns, frames_of, acknowledged}

-- the source ended or failed before it gave eight bytes: nothing is answered, and no frame is taken
pub record HeadIsCut (frames frames2 : List OwnedFrame) (left left2 written written2 : Option (List ℕ)) : Type 0 where
  pub read : List ℕ
  pub short : length read < 8
  pub read_is : left ≡ prepend_known read left2
  pub unanswered : written2 ≡ written
  pub none_taken : frames2 ≡ frames

-- no owner has this number: the reply is `out of place`, of which a sink that fails takes the front, and no frame is taken
pub record IsOfNoOwner (numbers : List ℕ) (frames frames2 : List OwnedFrame) (left left2 written written2 : Option (List ℕ)) : Type 0 where
  pub owner : ℕ
  pub short : owner < 2 ^ 64
  pub unknown : Contains numbers owner → ⊥
  pub read_is : left ≡ prepend_known (to_be_bytes w64 owner) left2
  pub refused : (written2 ≡ append_known written (reply_bytes OutOfPlace)) ⊎ TookFront written written2 (reply_bytes OutOfPlace)
  pub none_taken : frames2 ≡ frames

-- the frames of an owner were answered one after the other by this owner's server, from what its own frames had made of it, and
-- those that were acknowledged were taken
pub record IsOfOwner (f : KeyedFn) (numbers : List ℕ) (frames frames2 : List OwnedFrame) (left left2 written written2 : Option (List ℕ)) : Type 0 where
  pub owner : ℕ
  pub short : owner < 2 ^ 64
  pub known : Contains numbers owner
  pub turns : List Turn
  pub rest : List ℕ
  pub end : ConnEnd
  pub answered : AreTurns f (state_of owner frames) turns (state_of owner frames2)
  pub read_is : left ≡ prepend_known (to_be_bytes w64 owner ++ frames_of turns ++ rest) left2
  pub finish : Finishes end turns (state_of owner frames2) rest left2 written written2
  pub taken_are : frames2 ≡ frames ++ map (owned owner) (acknowledged turns)

-- one of the three
abbrev pub IsOwnerServed : KeyedFn → (numbers : List ℕ) (frames frames2 : List OwnedFrame) (left left2 written written2 : Option (List ℕ)) → Type 0
IsOwnerServed f numbers frames frames2 left left2 written written2 =
    HeadIsCut frames frames2 left left2 written written2
    ⊎ (IsOfNoOwner numbers frames frames2 left left2 written written2
    ⊎ IsOfOwner f numbers frames frames2 left left2 written written2)

-- the owners' servers after a connection: they have taken the frames that it left
pub record ServesOwner (f : KeyedFn) (owners owners2 : OwnersView) (frames : List OwnedFrame) (left left2 written written2 : Option (List ℕ)) (content2 : Option (List ℕ)) (images2 : List ℕ → Type 0) : Type 0 where
  pub frames2 : List OwnedFrame
  pub numbers : owners2.numbers ≡ owners.numbers
  pub served : IsOwnerServed f owners.numbers frames frames2 left left2 written written2
  pub owners_are : IsOwnersOf frames2 owners2 content2 images2

module _ {I O : Type 0} (f : KeyedFn) (remaining : I → Option (List ℕ)) (written : O → Option (List ℕ)) (numbers : List ℕ) where
  -- each connection was served from the frames that those before it left
  abbrev pub AreOwnersServed : (conns backs : List (Duplex I O)) (frames frames2 : List OwnedFrame) → Type 0
  AreOwnersServed [] [] frames frames2 = frames2 ≡ frames
  AreOwnersServed [] (_ ∷ _) frames frames2 = ⊥
  AreOwnersServed (_ ∷ _) [] frames frames2 = ⊥
  AreOwnersServed (conn ∷ conns) (back ∷ backs) frames frames2 =
      (mid : List OwnedFrame) × IsOwnerServed f numbers frames mid (remaining conn.source) (remaining back.source) (written conn.sink) (written back.sink) × AreOwnersServed conns backs mid frames2

  -- both lists grew, by connections that were served one after the other, and the owners' servers have taken what they left
  pub record HaveOwnersServed (frames : List OwnedFrame) (owners2 : OwnersView) (content2 : Option (List ℕ)) (images2 : List ℕ → Type 0) (offered offered2 returned returned2 : Option (List (Duplex I O))) : Type 0 where
    pub conns : List (Duplex I O)
    pub backs : List (Duplex I O)
    pub offered_is : offered2 ≡ option_map (λ l. l ++ conns) offered
    pub returned_is : returned2 ≡ option_map (λ l. l ++ backs) returned
    pub frames2 : List OwnedFrame
    pub numbers_are : owners2.numbers ≡ numbers
    pub served : AreOwnersServed conns backs frames frames2
    pub owners_are : IsOwnersOf frames2 owners2 content2 images2

  -- where connections were served up to here, those up to there were
  abbrev pub ServesMoreOwners : (owners owners2 : OwnersView) (content content2 : Option (List ℕ)) (images images2 : List ℕ → Type 0) (offered offered2 returned returned2 : Option (List (Duplex I O))) → Type 0
  ServesMoreOwners owners owners2 content content2 images images2 offered offered2 returned returned2 = (frames : List OwnedFrame) (offered0 returned0 : Option (List (Duplex I O)))
      → HaveOwnersServed frames owners content images offered0 offered returned0 returned
      → HaveOwnersServed frames owners2 content2 images2 offered0 offered2 returned0 returned2
