-- What many owners are replied to their frames, one after the other: each by the owner's own server.
use Rattle.std.specs.Prelude.{ℕ, ◌==◌, List, [], ◌∷◌, map, filter, if◌then◌else◌}
use Rattle.keyed_fn.specs.KeyedFn.{KeyedFn}
use Rattle.sse_frames.specs.Replies.{ReplyText}
use Rattle.server_core.specs.State.{ServerState}
use Rattle.server_core.specs.Step.{step}
use Rattle.sse_owners.specs.Owned.{OwnedFrame}

-- the replies to a frame of one owner
pub record OwnedReplies : Type 0 where
  pub owner : ℕ
  pub replies : List ReplyText

-- the servers, by their owners' numbers, after a frame of one owner
abbrev pub after : KeyedFn → (ℕ → ServerState) → OwnedFrame → ℕ → ServerState
after f servers one owner = if one.owner == owner then (step f (servers owner) one.frame).0 else servers owner

-- the replies to several frames, in order
abbrev pub replied : KeyedFn → (ℕ → ServerState) → List OwnedFrame → List OwnedReplies
replied f servers [] = []
replied f servers (one ∷ frames) =
    record { owner = one.owner; replies = (step f (servers one.owner) one.frame).1 } ∷ replied f (after f servers one) frames

-- those to the frames of one owner
abbrev pub replies_to : (owner : ℕ) → List OwnedReplies → List (List ReplyText)
replies_to owner all = map (λ one. one.replies) (filter (λ one. one.owner == owner) all)
