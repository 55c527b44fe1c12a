-- Frames of many owners, one after another, and the server of each owner after them.
use Rattle.std.specs.Prelude.{ℕ, ◌^◌, ◌<◌, ◌==◌, List, [], ◌∷◌, ◌++◌, Contains, map, filter}
use Rattle.std.specs.Int.{w64, to_be_bytes}
use Rattle.sse_frames.specs.Frames.{FrameText, body_of}
use Rattle.server_core.specs.State.{ServerState, at_first}
use Rattle.sse_server.specs.Taken.{IsTaken, taken_all}

-- a frame of one of many owners
pub record OwnedFrame : Type 0 where
  pub owner : ℕ
  pub frame : FrameText

abbrev pub owned : (owner : ℕ) → FrameText → OwnedFrame
owned owner frame = record { owner = owner; frame = frame }

-- the frames of one owner, in order
abbrev pub frames_of : (owner : ℕ) → List OwnedFrame → List FrameText
frames_of owner frames = map (λ one. one.frame) (filter (λ one. one.owner == owner) frames)

-- the server of an owner once these frames were taken: what its own frames make of a server that has taken nothing
abbrev pub state_of : (owner : ℕ) → List OwnedFrame → ServerState
state_of owner frames = taken_all at_first (frames_of owner frames)

-- the servers of the owners with these numbers, in their order
abbrev pub states_of : (numbers : List ℕ) → List OwnedFrame → List ServerState
states_of numbers frames = map (λ owner. state_of owner frames) numbers

-- the frame is of one of these owners, and its owner's server takes it after the frames that were taken before
pub record IsOwnTaken (numbers : List ℕ) (before : List OwnedFrame) (one : OwnedFrame) : Type 0 where
  pub known : Contains numbers one.owner
  -- the number fits in eight bytes
  pub short : one.owner < 2 ^ 64
  pub is_taken : IsTaken (state_of one.owner before) one.frame

-- each of these frames is taken so, after those before it
abbrev pub AreOwnTaken : (numbers : List ℕ) (before : List OwnedFrame) → List OwnedFrame → Type 0
AreOwnTaken numbers before [] = Unit {0}
AreOwnTaken numbers before (one ∷ more) = IsOwnTaken numbers before one × AreOwnTaken numbers (before ++ one ∷ []) more

-- a record of the journal: the owner's number in eight bytes, the most significant first, and the body of the frame
abbrev pub record_of : OwnedFrame → List ℕ
record_of one = to_be_bytes w64 one.owner ++ body_of one.frame

abbrev pub records : List OwnedFrame → List (List ℕ)
records frames = map record_of frames
