-- The sent frames that a server took as updates, if it answered each by its step.
use Rattle.std.specs.Prelude.{◌≡◌, ℕ, List, [], ◌∷◌, ◌++◌, map, Option, Some, None}
use Rattle.keyed_fn.specs.KeyedFn.{KeyedFn}
use Rattle.sse_frames.specs.Frames.{FrameText, InGrammar, body_of, frame_bytes, update_number}
use Rattle.sse_frames.specs.Replies.{ReplyText}
use Rattle.server_core.specs.Refusal.{refusal}
use Rattle.server_core.specs.State.{ServerState}
use Rattle.server_core.specs.Step.{taken, step}
use Rattle.def_link_events.specs.Events.{Event, Sent, Received}

-- these frames of the grammar were sent, in this order, and no others
abbrev pub AreSent : List FrameText → List Event → Type 0
AreSent frames [] = frames ≡ []
AreSent [] (Sent bytes mark ∷ events) = ⊥
AreSent (frame ∷ frames) (Sent bytes mark ∷ events) = InGrammar frame × (bytes ≡ frame_bytes frame) × AreSent frames events
AreSent frames (Received bytes ∷ events) = AreSent frames events

-- the frame itself where it is an update, by its number, and isn't refused
abbrev pub update_taken : (number : Option ℕ) (refused : Option ReplyText) → FrameText → List FrameText
update_taken None refused frame = []
update_taken (Some q) None frame = frame ∷ []
update_taken (Some q) (Some reply) frame = []

-- the frame itself where a server in this state takes it as an update
abbrev pub taken_one : ServerState → FrameText → List FrameText
taken_one s frame = update_taken (update_number frame) (refusal s frame) frame

-- of several frames, one after the other, those that are taken as updates
abbrev pub frames_taken : KeyedFn → ServerState → List FrameText → List FrameText
frames_taken f s [] = []
frames_taken f s (frame ∷ frames) = taken_one s frame ++ frames_taken f (step f s frame).0 frames

-- and their bodies, which are the records of a server's journal
abbrev pub bodies_taken : KeyedFn → ServerState → List FrameText → List (List ℕ)
bodies_taken f s frames = map body_of (frames_taken f s frames)

-- none of these frames is refused, each after those before it
abbrev pub NoneRefused : ServerState → List FrameText → Type 0
NoneRefused s [] = Unit {0}
NoneRefused s (frame ∷ frames) = (refusal s frame ≡ None) × NoneRefused (taken s frame) frames

-- the updates among frames
abbrev pub updates_among : List FrameText → List FrameText
updates_among [] = []
updates_among (frame ∷ frames) = update_taken (update_number frame) None frame ++ updates_among frames
