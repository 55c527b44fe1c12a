-- The records that the journal of many owners may have.
use Rattle.std.specs.Prelude.{◌≡◌, ◌≢◌, ℕ, ◌+◌, ◌^◌, ◌<◌, List, [], length, take, get_or, slice_set, Option, Some, None}
use Rattle.sse_frames.specs.Frames.{FrameText}
use Rattle.sse_journal.specs.Files.{Gives}
use Rattle.sse_journal.specs.Reads.{place_of}
use Rattle.server_core.specs.State.{ServerState, at_first}
use Rattle.server_core.specs.Step.{taken}
use Rattle.sse_server.specs.Taken.{IsTaken}
use Rattle.sse_owners.specs.Owned.{OwnedFrame, IsOwnTaken, AreOwnTaken, owned, record_of, records, states_of}

-- the k-th record, counted from 0, is the first that isn't taken: those before it are frames of these owners that their
-- servers take from nothing on, and it is no frame that the server of one of them takes after those
pub record IsBadOwned (numbers : List ℕ) (payloads : List (List ℕ)) (k : ℕ) : Type 0 where
  pub frames : List OwnedFrame
  pub are_taken : AreOwnTaken numbers [] frames
  pub before : take k payloads ≡ records frames
  pub inside : k < length payloads
  pub bad : (one : OwnedFrame) → IsOwnTaken numbers frames one → get_or payloads k [] ≢ record_of one

-- so it is with the records that this file gives
pub record HasBadOwned (numbers : List ℕ) (bytes : List ℕ) (k : ℕ) : Type 0 where
  pub payloads : List (List ℕ)
  pub gives : Gives payloads bytes
  pub bad : IsBadOwned numbers payloads k

-- all of these records are frames of these owners that their servers take from nothing on, and these are the states after them
pub record AreReplayed (numbers : List ℕ) (payloads : List (List ℕ)) (states : List ServerState) : Type 0 where
  pub frames : List OwnedFrame
  pub are_taken : AreOwnTaken numbers [] frames
  pub payloads_are : payloads ≡ records frames
  pub states_are : states ≡ states_of numbers frames

-- a record is a frame of the owner at a place, whose server, in its state of these, takes it
pub record CanTakeOwned (numbers : List ℕ) (states : List ServerState) (payload : List ℕ) : Type 0 where
  pub place : ℕ
  pub within : place < length numbers
  -- the number fits in eight bytes
  pub short : get_or numbers place 0 < 2 ^ 64
  pub frame : FrameText
  pub is_taken : IsTaken (get_or states place at_first) frame
  pub payload_is : payload ≡ record_of (owned (get_or numbers place 0) frame)

-- that server took it, and the others stayed
pub record TakesOwned (numbers : List ℕ) (before : List ServerState) (payload : List ℕ) (after : List ServerState) : Type 0 where
  pub can : CanTakeOwned numbers before payload
  pub after_is : after ≡ slice_set before can.place (taken (get_or before can.place at_first) can.frame)

-- the record of this number and the place of the next one; none where all were taken
abbrev pub TakesNextOwned : (numbers : List ℕ) (payloads : List (List ℕ)) (number : ℕ) → Option ℕ → (before after : List ServerState) → Type 0
TakesNextOwned numbers payloads number None before after = (number ≡ length payloads) × (after ≡ before)
TakesNextOwned numbers payloads number (Some next) before after =
    (number < length payloads) × TakesOwned numbers before (get_or payloads number []) after × (next ≡ place_of payloads (number + 1))
