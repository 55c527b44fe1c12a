-- The records that a server's journal may have.
use Rattle.std.specs.Prelude.{◌≡◌, ◌≢◌, ℕ, ◌+◌, ◌<◌, List, [], length, take, get_or, Option, Some, None}
use Rattle.sse_frames.specs.Frames.{FrameText, body_of}
use Rattle.sse_journal.specs.Files.{Gives}
use Rattle.sse_journal.specs.Reads.{place_of}
use Rattle.server_core.specs.State.{ServerState, at_first}
use Rattle.server_core.specs.Step.{taken}
use Rattle.sse_server.specs.Taken.{IsTaken, AreTaken, taken_all, bodies}

-- the k-th record, counted from 0, is the first that a server doesn't take: those before it are the bodies of frames that a
-- server takes from nothing on, and it is the body of no frame that the server takes after them
pub record IsBadRecord (payloads : List (List ℕ)) (k : ℕ) : Type 0 where
  pub frames : List FrameText
  pub are_taken : AreTaken at_first frames
  pub before : take k payloads ≡ bodies frames
  pub inside : k < length payloads
  pub bad : (frame : FrameText) → IsTaken (taken_all at_first frames) frame → get_or payloads k [] ≢ body_of frame

-- so it is with the records that this file gives
pub record HasBadRecord (bytes : List ℕ) (k : ℕ) : Type 0 where
  pub payloads : List (List ℕ)
  pub gives : Gives payloads bytes
  pub bad : IsBadRecord payloads k

-- all of these records are the bodies of frames that a server takes from nothing on, and this is the state after them
pub record IsReplayed (payloads : List (List ℕ)) (state : ServerState) : Type 0 where
  pub frames : List FrameText
  pub are_taken : AreTaken at_first frames
  pub payloads_are : payloads ≡ bodies frames
  pub state_is : state ≡ taken_all at_first frames

-- one record is the body of a frame that a server takes in this state, and that is the state after it
pub record TakesRecord (before : ServerState) (body : List ℕ) (after : ServerState) : Type 0 where
  pub frame : FrameText
  pub is_taken : IsTaken before frame
  pub body_is : body ≡ body_of frame
  pub state_is : after ≡ taken before frame

-- these bytes are the body of a frame that a server in this state takes
abbrev pub CanTake : ServerState → (body : List ℕ) → Type 0
CanTake s body = (frame : FrameText) × IsTaken s frame × (body ≡ body_of frame)

-- the record of this number and the place of the next one; none where all were taken
abbrev pub TakesNext : (payloads : List (List ℕ)) (number : ℕ) → Option ℕ → (before after : ServerState) → Type 0
TakesNext payloads number None before after = (number ≡ length payloads) × (after ≡ before)
TakesNext payloads number (Some next) before after =
    (number < length payloads) × TakesRecord before (get_or payloads number []) after × (next ≡ place_of payloads (number + 1))
