-- The frames of many owners that have been taken, of which one owner's are answered now.
use Rattle.std.specs.Prelude.{◌≡◌, ℕ, List, ◌++◌, map, Option}
use Rattle.sse_frames.specs.Frames.{FrameText}
use Rattle.sse_owners.specs.Owned.{OwnedFrame, owned}
use Rattle.sse_owners.specs.OwnersView.{OwnersView, GivesAtMostOneMore, IsOwnersOf, chosen_owner}
use Rattle.server_connections.specs.Handled.{Since}

-- those that were taken before, and these of the owner who is answered
abbrev pub with_own : Since → List FrameText → List OwnedFrame
with_own since frames = since.taken ++ map (owned since.owner) frames

-- the owners are these, the one who is answered is chosen, and these frames were taken
pub record AreOwnersLasting (since : Since) (frames : List FrameText) (owners : OwnersView) (content : Option (List ℕ)) (images : List ℕ → Type 0) : Type 0 where
  pub numbers : owners.numbers ≡ since.numbers
  pub owner : chosen_owner owners ≡ since.owner
  pub taken : IsOwnersOf (with_own since frames) owners content images
  pub left : (bytes : List ℕ) → images bytes → GivesAtMostOneMore since.numbers (with_own since frames) bytes
