use Rattle.std.proofs.Common.{◌≡◌, List}
use Rattle.std.specs.List.{AllByRecursion}
use Rattle.client_core.specs.TakenViews.{frames_left, to_send}
use Rattle.sse_frames.specs.Frames.{FrameText, IsFrame}
use Rattle.sse_client.specs.Steps.{AreOwed, IsSending}
use Rattle.sse_client.proofs.frame_exchange.catch_up.Given as goal

abbrev pub invariant-frames : goal.invariant-frames
invariant-frames g l = record {
  began : g.L.Link.began l.link ≡ g.L.Link.began l.fn.link;
  steady : g.L.Link.faults l.link ≡ g.L.Link.faults l.fn.link;
  grammar : AllByRecursion IsFrame (to_send l.client.state);
  key : l.client.key ≡ l.fn.client.key;
  ready : l.client.state.ready ≡ l.fn.client.state.ready;
  sending : (frames : List FrameText) → AreOwed l.fn.client.state frames → IsSending (g.L.Link.transcript l.fn.link) (g.L.Link.transcript l.link) l.client.state frames;
}

abbrev pub decreases-frames : goal.decreases-frames
decreases-frames g l = frames_left l.client.state
