-- The effect of a call over a link, by the link's observable parts before and after it.
use Rattle.std.specs.Prelude.{◌≡◌, ℕ, List, [], Option, Result, Ok, Err, IfErr, OnOk}
use Rattle.def_link_events.specs.Events.{Remote}
use Rattle.script_run_texts.specs.Stops.{peer_cause}
use Rattle.script_run_texts.specs.declared.peer_stop.PeerStop.{PeerStop}
use Rattle.def_script_meaning.specs.Exchange.{Told}
use Rattle.sse_client.specs.Exchanges.{HasExchanged, HasCut}
use Rattle.sse_frames.specs.Frames.{FrameText}

-- what a link shows of itself: what passed, its count of faults, and the server that it began with
pub record LinkShows : Type 0 where
  pub told : Told
  pub faults : ℕ
  pub began : Option Remote

abbrev pub shows : Told → ℕ → Option Remote → LinkShows
shows told faults began = record { told = told; faults = faults; began = began }

-- what every call keeps of a link: the server that it began with; its count of faults where the call went well, and else the
-- count shows the cause as this says
pub record KeepsLink {T E : Type 0} (showing : ℕ → ℕ → E → Type 0) (old new : LinkShows) (result : Result T E) : Type 0 where
  pub began : new.began ≡ old.began
  pub steady : OnOk result (new.faults ≡ old.faults)
  pub cause : IfErr result (showing old.faults new.faults)

-- these frames were exchanged, or the call was cut in them
abbrev pub Sends : {T : Type 0} → (old new : LinkShows) → List FrameText → Result T PeerStop → Type 0
Sends old new frames (Ok x) = HasExchanged old.told new.told [] frames
Sends old new frames (Err stop) = HasCut old.told new.told frames (peer_cause stop)
