-- The server at the other end of a link, after a frame that was sent.
use Rattle.std.specs.Prelude.{◌≡◌, ◌⊎◌, ℕ, List, [], ◌∷◌, ◌++◌, Option, Some, None}
use Rattle.std.specs.Option.{option_map}
use Rattle.keyed_fn.specs.KeyedFn.{KeyedFn}
use Rattle.sse_frames.specs.Frames.{FrameText, IsFrame}
use Rattle.server_core.specs.State.{ServerState}
use Rattle.server_core.specs.Step.{step}
use Rattle.sse_server.specs.Taken.{IsTaken}
use Rattle.def_link_events.specs.Events.{Event, Sent, Remote}
use Rattle.def_link_events.specs.declared.mark.Mark.{Mark}
use Rattle.def_link_events.specs.declared.mark.Mark.TheVariants.{Unknown, Stepped, LackedMemory, StoreFailed}

-- the server's step leaves this state, under every keyed function
abbrev pub Steps : (before : ServerState) → FrameText → (after : ServerState) → Type 0
Steps before frame after = (f : KeyedFn) → after ≡ (step f before frame).0

-- the state of the server is the one that the mark of its answer says
abbrev pub MovesAs : Mark → (before : ServerState) → FrameText → (after : ServerState) → Type 0
MovesAs Unknown before frame after = Steps before frame after ⊎ (after ≡ before)
MovesAs Stepped before frame after = Steps before frame after
MovesAs LackedMemory before frame after = after ≡ before
MovesAs StoreFailed before frame after = after ≡ before

-- a frame reached the server; one that it doesn't take as an update leaves the file
pub record IsReached (bytes : List ℕ) (mark : Mark) (before after : Remote) : Type 0 where
  pub sent : IsFrame bytes
  pub moved : MovesAs mark before.state sent.frame after.state
  pub untouched : (IsTaken before.state sent.frame → ⊥) → after.file ≡ before.file

-- the same of a server that the link can tell; one that it can't tell stays so
abbrev pub Reaches : (bytes : List ℕ) → Mark → (before after : Option Remote) → Type 0
Reaches bytes mark None after = after ≡ None
Reaches bytes mark (Some before) None = ⊥
Reaches bytes mark (Some before) (Some after) = IsReached bytes mark before after

-- a frame was sent: it is the last that passed, with the mark of its answer, and it reached the server
pub record HasSent (bytes : List ℕ) (events events2 : Option (List Event)) (remote remote2 : Option Remote) : Type 0 where
  pub mark : Mark
  pub told : events2 ≡ option_map (λ passed. passed ++ Sent bytes mark ∷ []) events
  pub reached : Reaches bytes mark remote remote2
