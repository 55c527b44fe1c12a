-- Frames that a server takes one after another: the state after them, and the replies; and a server that takes a setup.
use Rattle.std.specs.Prelude.{◌≡◌, ℕ, List, [], ◌∷◌, not, true, None}
use Rattle.keyed_fn.specs.KeyedFn.{KeyedFn}
use Rattle.sse_frames.specs.Frames.{FrameText}
use Rattle.sse_frames.specs.Replies.{ReplyText}
use Rattle.server_core.specs.Refusal.{is_next, in_place, clash}
use Rattle.server_core.specs.State.{ServerState, is_filling}
use Rattle.server_core.specs.Step.{taken, answers}

-- a server that takes the frames of a setup, the first of which has this number, whatever it holds, unless it is within another
-- setup: SetupBegin overwrites all but the number
pub record Expects (q : ℕ) (s : ServerState) : Type 0 where
  pub next : s.next ≡ q
  pub stage : not (is_filling s.stage) ≡ true

-- a frame has the number that the server expects, if it has one, fits the stage, and collides with nothing that it holds
pub record IsInOrder (s : ServerState) (frame : FrameText) : Type 0 where
  pub next : is_next s frame ≡ true
  pub stage : in_place s frame ≡ true
  pub clash : clash s frame ≡ None

-- so has each of these, after those before it
abbrev pub AreInOrder : ServerState → List FrameText → Type 0
AreInOrder s [] = Unit {0}
AreInOrder s (frame ∷ frames) = IsInOrder s frame × AreInOrder (taken s frame) frames

-- the state that takes these frames, and the answer to each
abbrev pub taken_all : KeyedFn → ServerState → List FrameText → ServerState × List (List ReplyText)
taken_all f s [] = (s, [])
taken_all f s (frame ∷ frames) =
    let later = taken_all f (taken s frame) frames in
    (later.0, answers f s frame ∷ later.1)

-- the frames are in order, and lead to this state with these replies
pub record Takes (f : KeyedFn) (s : ServerState) (frames : List FrameText) (end : ServerState) (replies : List (List ReplyText)) : Type 0 where
  pub each : AreInOrder s frames
  pub leaves : taken_all f s frames ≡ (end, replies)
