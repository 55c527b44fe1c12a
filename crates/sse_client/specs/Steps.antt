-- The progress of sending an update's frames, and the effect of sending the next one.
use Rattle.std.specs.Prelude.{◌≡◌, ◌<◌, ◌++◌, List, [], map, drop, Result, Ok, Err}
use Rattle.client_core.specs.Owes.{AreNumbered}
use Rattle.client_core.specs.TakenViews.{first_number, frames_left, to_send}
use Rattle.client_core.specs.declared.behind.Behind.{Behind}
use Rattle.client_core.specs.declared.client.Client.{Client}
use Rattle.script_run_texts.specs.Stops.{peer_cause}
use Rattle.script_run_texts.specs.declared.peer_stop.PeerStop.{PeerStop}
use Rattle.def_script_meaning.specs.Exchange.{Told}
use Rattle.sse_client.specs.Exchanges.{HasExchanged, HasCut}
use Rattle.sse_client.specs.declared.frame_exchange.Step.{Step}
use Rattle.sse_client.specs.declared.frame_exchange.Step.TheVariants as steps
use Rattle.sse_frames.specs.Frames.{FrameText, frame_bytes}

-- frames that an update is to send
abbrev pub AreOwed : Behind → List FrameText → Type 0
AreOwed state frames = (to_send state ≡ map frame_bytes frames) × AreNumbered (first_number state) frames

-- of these frames some were exchanged, and the others are left
pub record IsSending (old now : Told) (state : Behind) (frames : List FrameText) : Type 0 where
  pub done : List FrameText
  pub left : List FrameText
  pub parts : frames ≡ done ++ left
  pub exchanged : HasExchanged old now [] done
  pub to_come : to_send state ≡ map frame_bytes left
  pub numbered : AreNumbered (first_number state) left

-- the frames that a client owes were exchanged but for those that it owes then, or all, or were cut
abbrev pub StepsOver : Told → Told → List FrameText → Result Step PeerStop → Type 0
StepsOver old new frames (Ok (steps.Behind next)) = IsSending old new next.state frames
StepsOver old new frames (Ok (steps.Ready ready)) = HasExchanged old new [] frames
StepsOver old new frames (Err stop) = HasCut old new frames (peer_cause stop)

-- the client after it has the key of before, owes all but the first frame and fewer than before, or is ready
abbrev pub LeavesClient : Client Behind → Step → Type 0
LeavesClient client (steps.Behind next) =
    (next.key ≡ client.key) × (next.state.ready ≡ client.state.ready) × (to_send next.state ≡ drop 1 (to_send client.state))
    × (frames_left next.state < frames_left client.state)
LeavesClient client (steps.Ready ready) = (ready.key ≡ client.key) × (ready.state ≡ client.state.ready)
