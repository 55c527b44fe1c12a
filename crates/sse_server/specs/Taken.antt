-- Update frames that a server takes one after another, and the state after them.
use Rattle.std.specs.Prelude.{◌≡◌, ℕ, List, [], ◌∷◌, IsSome, None, map}
use Rattle.sse_frames.specs.Frames.{FrameText, InGrammar, update_number, body_of}
use Rattle.server_core.specs.Refusal.{refusal}
use Rattle.server_core.specs.State.{ServerState}
use Rattle.server_core.specs.Step.{taken}

-- a server in this state takes the frame: it is an update frame of the grammar, and no cause to refuse it stands
pub record IsTaken (s : ServerState) (frame : FrameText) : Type 0 where
  pub update : IsSome (update_number frame)
  pub grammar : InGrammar frame
  pub accepted : refusal s frame ≡ None

-- it takes each of these frames, after those before it
abbrev pub AreTaken : ServerState → List FrameText → Type 0
AreTaken s [] = Unit {0}
AreTaken s (frame ∷ frames) = IsTaken s frame × AreTaken (taken s frame) frames

-- the state after them
abbrev pub taken_all : ServerState → List FrameText → ServerState
taken_all s [] = s
taken_all s (frame ∷ frames) = taken_all (taken s frame) frames

-- what a journal has of them: their bodies, in order
abbrev pub bodies : List FrameText → List (List ℕ)
bodies frames = map body_of frames
