-- Frames that a server takes one after the other: one frame more, and what its step says of them.
use Rattle.std.proofs.Common.{◌≡◌, List, [], ◌∷◌, ◌++◌, refl, ◌∙◌, ap}
use Rattle.std.specs.Prelude.{Option, Some, None}
use Rattle.std.specs.Option.{option_map_or}
use Rattle.std.proofs.lemmas.List.{map-append}
use Rattle.search_token.specs.KeyedFn.{KeyedFn}
use Rattle.sse_frames.specs.Frames.{FrameText, Hello, SetupBegin, SetupDict, SetupArray, SetupEnd, AddFrame, DeleteFrame, SearchFrame, body_of, update_number}
use Rattle.sse_frames.specs.Replies.{ReplyText}
use Rattle.server_core.specs.Refusal.{refusal}
use Rattle.server_core.specs.State.{ServerState}
use Rattle.server_core.specs.Step.{taken, answers, step, steps}
use Rattle.sse_server.specs.Taken.{IsTaken, AreTaken, taken_all, bodies}

pub AreTaken-push : (s : ServerState) (frames : List FrameText) (frame : FrameText) → AreTaken s frames → IsTaken (taken_all s frames) frame → AreTaken s (frames ++ frame ∷ [])
AreTaken-push s [] frame are is = (is, tt)
AreTaken-push s (x ∷ xs) frame are is = (are.0, AreTaken-push (taken s x) xs frame are.1 is)

pub taken_all-push : (s : ServerState) (frames : List FrameText) (frame : FrameText) → taken_all s (frames ++ frame ∷ []) ≡ taken (taken_all s frames) frame
taken_all-push s [] frame = refl
taken_all-push s (x ∷ xs) frame = taken_all-push (taken s x) xs frame

pub bodies-push : (frames : List FrameText) (frame : FrameText) → bodies (frames ++ frame ∷ []) ≡ bodies frames ++ body_of frame ∷ []
bodies-push frames frame = map-append body_of frames (frame ∷ [])

-- the state that a step leaves, by whether the frame is refused
left_by : (f : KeyedFn) (s : ServerState) (frame : FrameText) → Option ReplyText → ServerState
left_by f s frame refused = let came : ServerState × List ReplyText = option_map_or (λ reply. (s, reply ∷ [])) refused (taken s frame, answers f s frame) in came.0

-- a frame that is no update frame leaves the state, refused or not
pub step_stays : (f : KeyedFn) (s : ServerState) (frame : FrameText) → update_number frame ≡ None → (step f s frame).0 ≡ s
unfolding left_by
step_stays f s Hello none = elim (refusal s Hello) as (λ r. left_by f s Hello r ≡ s) [ None ↦ refl | Some reply ↦ refl ]
step_stays f s (SearchFrame token) none = elim (refusal s (SearchFrame token)) as (λ r. left_by f s (SearchFrame token) r ≡ s) [ None ↦ refl | Some reply ↦ refl ]
step_stays f s (SetupBegin q b big m a) none = cc
step_stays f s (SetupDict q width entries) none = cc
step_stays f s (SetupArray q width blocks) none = cc
step_stays f s (SetupEnd q) none = cc
step_stays f s (AddFrame q entries numbers) none = cc
step_stays f s (DeleteFrame q numbers) none = cc

-- the server's step takes a frame that it doesn't refuse
pub step_taken : (f : KeyedFn) (s : ServerState) (frame : FrameText) → IsTaken s frame → (step f s frame).0 ≡ taken s frame
unfolding left_by
step_taken f s frame is = ap (left_by f s frame) is.accepted

-- Promise P128, also here
-- frames that are taken are those of the server's steps, under any keyed function
pub steps_taken : (f : KeyedFn) (s : ServerState) (frames : List FrameText) → AreTaken s frames → (steps f s frames).0 ≡ taken_all s frames
steps_taken f s [] are = refl
steps_taken f s (frame ∷ frames) are = ap (λ t. (steps f t frames).0) (step_taken f s frame are.0) ∙ steps_taken f (taken s frame) frames are.1
